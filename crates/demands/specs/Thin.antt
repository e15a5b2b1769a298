-- Request 4: a full list that is too thin. Each sentence of it, and under it the theorems that say so, of any outcome that the contracts
-- admit. Assumes nothing.
use Rattle.std.specs.Prelude.{◌≡◌, List, ℕ, ◌*◌, ◌≤◌, ◌<◌, length}
use Rattle.std.proofs.Common.{arith}
use Rattle.theory.specs.First.{Rule, None}
use Rattle.theory.specs.Pick.{good, pick}
use Rattle.theory.specs.Tally.{tally}
use Rattle.sizes.specs.Sizes.{incremental, full}
use Rattle.stamps.specs.Stamp.{stamp}
use Rattle.records.specs.Slot.{slot_of}
use Rattle.header.specs.Header.{sender, list_sequence}
use Rattle.hgv.specs.Layout.{lines_in, lines_of}
use Rattle.slots.specs.Slots.{slots_in, records}
use Rattle.slots.specs.Search.{count_of}
use Rattle.holdings.specs.Holdings.{others, holdings}
use Rattle.stops.specs.Stops.{form_stops}
use Rattle.imports.specs.Imported.{Imported}
use Rattle.imports.specs.Handed.{Handed}
use Rattle.importer.specs.Promises.{Import}
use Rattle.provider.specs.Counted.{Counted}
use Rattle.updating.specs.Sent.{Sent}
use Rattle.offsets.specs.Offset.{reception_holds}
use Rattle.updating.specs.Promises.{Update}
use Rattle.demands.specs.Verdicts.{Verdicts}
use Rattle.demands.specs.laws.Thin as laws

-- Of what was handed over the import answered r, and left the register b and the buffer g
module _ (f : Handed) (register : List ℕ) (r : Imported) (b g : List ℕ) (o : Import f register r b g) where
  -- 21 to 32
  abbrev form : List Rule
  form = form_stops f.mode (reception_holds f.offset f.reception) register f.rows f.hgv

  -- the records held for the sender before the file, ended ones too
  abbrev held : ℕ
  held = count_of (sender f.hgv) (records register)

  -- vs are the verdicts of the file's lines, beside the register as it was
  module _ (vs : List ℕ) (v : Verdicts f.rows (sender f.hgv) (records register) (lines_of f.hgv) vs) where
    -- "In mode 2, if twice the taken lines is less than the records held for the sender, stop. Refusals: 35, after 32": the import answers 35
    -- where it is so and none of 21 to 32 holds,
    pub stopped_so : None form → f.mode ≡ full → 2 * tally good vs < held → r.number ≡ 35
    stopped_so = laws.stopped_so f register r b g o vs v

    -- and only there:
    pub stopped_only : r.number ≡ 35 → None form × ((f.mode ≡ full) × (2 * tally good vs < held))
    stopped_only = laws.stopped_only f register r b g o vs v

    -- half exactly passes, and where nothing is held nothing is stopped;
    pub half_passes : held ≤ 2 * tally good vs → r.number ≡ 35 → ⊥
    half_passes h e = omega (arith, (stopped_only e).1.1)

    -- a full list without a line stops where anything is held;
    pub empty_stops : None form → f.mode ≡ full → lines_in f.hgv ≡ 0 → 0 < held → r.number ≡ 35
    empty_stops = laws.empty_stops f register r b g o vs v

    -- an incremental list passes
    pub incremental_passes : f.mode ≡ incremental → r.number ≡ 35 → ⊥
    incremental_passes m e = omega (arith, (stopped_only e).1.0)

    -- "and before 33": what follows has room wherever 35 is answered, so the two never hold together and nobody leans on their order
    pub has_room : r.number ≡ 35 → length (holdings f.mode (sender f.hgv) (slot_of (stamp (list_sequence f.hgv) f.reception)) (records register) (pick good vs (lines_of f.hgv))) ≤ slots_in register
    has_room = laws.has_room f register r b g o vs v

  -- "A provider's night job sent a full list with eleven lines and we removed his other accounts."
  -- Whoever sends, in whichever mode, an import leaves each provider half of the records that are held for him, or more
  pub half_left : (who : List ℕ) → count_of who (records register) ≤ 2 * count_of who (records b)
  half_left = laws.half_left f register r b g o

-- "The provider's own update doesn't use it."
pub update_unasked : (s : Sent) (copy : List ℕ) (r : Counted) (c : List ℕ) → Update s copy r c → r.number ≡ 35 → ⊥
update_unasked = laws.update_unasked

-- How many lines would have been taken can be asked of an import beside the others' records alone, where nothing is held for the sender: the
-- lines have the same verdicts there
pub own_unseen : (rows from : List ℕ) (R ls : List (List ℕ)) (vs : List ℕ) → Verdicts rows from (others from R) ls vs → Verdicts rows from R ls vs
own_unseen rows from = laws.own_unseen from rows
