-- Imports whose lines were judged with any limits of weight in place of today's: those before request 3, or those of a day to come.
-- What such an import answers, and our side as a sequence of them, each with limits of its own. Assumes nothing.
use Rattle.std.specs.Prelude.{◌≡◌, Bool, not, ◌&&◌, List, [], ◌∷◌, ◌++◌, ℕ, ◌≤◌, ltb, length}
use Rattle.theory.specs.Text.{bytes}
use Rattle.theory.specs.First.{Rule, ◌if◌, first}
use Rattle.theory.specs.Walk.{each, some}
use Rattle.theory.specs.Scan.{scan}
use Rattle.theory.specs.Pick.{good, bad}
use Rattle.theory.specs.Tally.{tally}
use Rattle.theory.specs.Join.{flat}
use Rattle.theory.specs.Pad.{pad}
use Rattle.texts.specs.Field.{listed}
use Rattle.numbers.specs.Number.{number}
use Rattle.columns.specs.Columns.{pan_of, tariff, weight}
use Rattle.vehicles.specs.Vehicle.{vehicle_holds}
use Rattle.lines.specs.Rules.{rules_by}
use Rattle.stamps.specs.Stamp.{stamp}
use Rattle.records.specs.Slot.{slot_of}
use Rattle.hgv.specs.Layout.{lines_of}
use Rattle.header.specs.Header.{sender, list_sequence}
use Rattle.sizes.specs.Sizes.{slot_length, slots_most}
use Rattle.slots.specs.Slots.{slots_in, records}
use Rattle.slots.specs.Search.{holds_pan, held_by_another}
use Rattle.register.specs.Register.{in_order}
use Rattle.verdicts.specs.Verdict.{taken}
use Rattle.holdings.specs.Holdings.{holdings}
use Rattle.hgc.specs.Confirmation.{confirmation}
use Rattle.stops.specs.Stops.{form_stop}
use Rattle.offsets.specs.Offset.{local, reception_holds}
use Rattle.receipts.specs.Receipt.{taken_by, receipt_holds}
use Rattle.imports.specs.Handed.{Handed}
use Rattle.provider.specs.Counted.{Counted}
use Rattle.updating.specs.Sent.{sent}
use Rattle.sweeping.specs.Swept.{Swept}
use Rattle.sweeping.specs.Promises.{Sweep}
use Rattle.demands.specs.History.{apply, of_update, Event, sweeping, empty, ◌▸◌}

-- ---- before request 3

-- the limit of a line and of a record: tariff 12 or 22 with weight at most 0350
unfoldable pub limit_before : List ℕ → Bool
limit_before l = not (listed 2 (bytes "1222") (tariff l) && ltb 350 (number (weight l)))

-- a register in order then (23): no record in it was over the limit
unfoldable pub in_order_before : List ℕ → Bool
in_order_before b = in_order b && each limit_before (records b)

-- an HGC that held beside its HGV then (52): no taken line was over the limit
unfoldable pub receipt_holds_before : List ℕ → List ℕ → Bool
receipt_holds_before h g = receipt_holds h g && each limit_before (taken_by h g)

-- ---- one import

-- L10 asks for the vehicle's fields and for this limit
unfoldable pub L10Under : (List ℕ → Bool) → List ℕ → Bool
L10Under limit l = vehicle_holds l && limit l

-- L1 to L12
unfoldable pub rules_under : (List ℕ → Bool) → List ℕ → List ℕ → List (List ℕ) → List (List ℕ) → List ℕ → List Rule
rules_under limit rows from R earlier l =
    rules_by (L10Under limit l) rows from l
    ++ (4 if held_by_another (pan_of l) from R)
    ∷ (1 if some (holds_pan (pan_of l)) earlier)
    ∷ []

unfoldable pub verdict_under : (List ℕ → Bool) → List ℕ → List ℕ → List (List ℕ) → List (List ℕ) → List ℕ → ℕ
verdict_under limit rows from R earlier l = first (rules_under limit rows from R earlier l)

-- the verdicts of the file's lines, beside the register as it was
unfoldable pub judged_under : (List ℕ → Bool) → Handed → List ℕ → List ℕ
judged_under limit f register = scan (verdict_under limit f.rows (sender f.hgv) (records register)) [] (lines_of f.hgv)

-- the records that follow where vs are the verdicts
unfoldable pub following_by : List ℕ → Handed → List ℕ → List (List ℕ)
following_by vs f register = holdings f.mode (sender f.hgv) (slot_of (stamp (list_sequence f.hgv) f.reception)) (records register) (taken vs f.hgv)

-- the import was accepted: none of 21 to 32 is given, nor 33; it left the register b, and sent back the HGC g
pub record AcceptedUnder (limit : List ℕ → Bool) (f : Handed) (register b g : List ℕ) : Type 0 where
  pub form : form_stop f.mode (reception_holds f.offset f.reception) register f.rows f.hgv ≡ 0
  pub room : length (following_by (judged_under limit f register) f register) ≤ slots_in register
  pub after : b ≡ flat (pad slot_length (slots_in register) (following_by (judged_under limit f register) f register))
  pub sent_back : g ≡ confirmation (local f.offset f.reception) f.hgv (judged_under limit f register)

-- ---- every sequence of them

-- 0, and the import's own counts
unfoldable pub own_counts : List ℕ → Counted
own_counts vs = record { number = 0; taken = tally good vs; rejected = tally bad vs }

-- he has to apply what was sent, and his update is to answer these
unfoldable pub acceptance_by : List ℕ → Handed → List ℕ → Event
acceptance_by vs f g = record { entry = apply (sent f.mode f.offset f.hgv g); answer = λ _. of_update (own_counts vs) }

-- our side: a refused import leaves all as it was, and so does a sweep of which nobody is told, so the others are enough
pub data OursUnder (n : ℕ) : List ℕ → List Event → Type 0 where
  -- it starts with n free slots
  start : n ≤ slots_most → OursUnder n (empty n) []
  -- a file was accepted, under the limits of its day
  accepted : {register : List ℕ} {es : List Event} → OursUnder n register es → (limit : List ℕ → Bool) (f : Handed) (b g : List ℕ)
      → AcceptedUnder limit f register b g → OursUnder n b (es ▸ acceptance_by (judged_under limit f register) f g)
  -- it was swept
  swept : {register : List ℕ} {es : List Event} → OursUnder n register es → (t : List ℕ) (r : Swept) (b : List ℕ)
      → Sweep t register r b → OursUnder n b (es ▸ sweeping t register r b)
