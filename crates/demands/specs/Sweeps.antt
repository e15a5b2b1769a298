-- Request 8: sweep ended accounts. Each sentence of it, and under it the theorems that say so, of any outcome that the contracts admit. That
-- a sweep is refused by 22, then by 23, and leaves the register then, stands with the other refusals in Demand1; that demand 3 stands with
-- sweeps, each at its place in both sequences, is Demand3 itself. Assumes nothing.
use Rattle.std.specs.Prelude.{◌≡◌, true, false, not, List, ℕ, ◌+◌, ◌≤◌, length}
use Rattle.std.proofs.Common.{ap, ◌∙◌}
use Rattle.theory.specs.Keep.{sift}
use Rattle.theory.specs.Join.{flat}
use Rattle.theory.specs.Pad.{pad}
use Rattle.theory.specs.Pick.{good}
use Rattle.theory.specs.Tally.{tally}
use Rattle.times.specs.Order.{earlier}
use Rattle.lines.specs.End.{active}
use Rattle.sizes.specs.Sizes.{slot_length, full}
use Rattle.header.specs.Header.{sender}
use Rattle.hgv.specs.Layout.{lines_of}
use Rattle.slots.specs.Slots.{slots_in, records, used_in}
use Rattle.slots.specs.Search.{of_actor}
use Rattle.register.specs.Register.{in_order}
use Rattle.lookups.specs.Promises.{ByPlate}
use Rattle.imports.specs.Imported.{Imported}
use Rattle.imports.specs.Handed.{Handed}
use Rattle.importer.specs.Promises.{Import}
use Rattle.provider.specs.Counted.{Counted}
use Rattle.updating.specs.Sent.{Sent}
use Rattle.updating.specs.Promises.{Update}
use Rattle.sweeping.specs.Swept.{Swept}
use Rattle.sweeping.specs.Sweep.{ended}
use Rattle.sweeping.specs.Promises.{Sweep}
use Rattle.sweeping.specs.laws.Sweep.{ended_is, staying_active, going_inactive, sweep_counts, sweep_holds}
use Rattle.demands.specs.Own.{own}
use Rattle.demands.specs.Verdicts.{Verdicts}
use Rattle.demands.specs.laws.Sweeps as laws
use Rattle.demands.specs.laws.Mended as mended

-- "every record whose end is not zeros and not later than T": that is every record that is not active at T
pub ended_exactly : (t x : List ℕ) → ended t x ≡ not (active t x)
ended_exactly = ended_is

-- At the time t a sweep of the register answered r, and left the register b
module _ (t register : List ℕ) (r : Swept) (b : List ℕ) (o : Sweep t register r b) where
  -- with the number 0
  module _ (z : r.number ≡ 0) where
    -- "removes every record" that has ended and "closes up the rest in order": those that are active at T stay, in their order and byte for byte;
    pub active_stay : records b ≡ sift (active t) (records register)
    active_stay = (sweep_holds t register r b o z).held ∙ staying_active t (records register)

    -- the freed slots are zero bytes, there are as many slots as before, and the register is in order again
    pub register_is : (b ≡ flat (pad slot_length (slots_in register) (records b))) × (in_order b ≡ true)
    register_is =
        let h = sweep_holds t register r b o z in
        (rw h.held h.bytes, h.order)

    -- "and says how many went": those that are not active at T; the used slots fall by that number
    pub says_how_many : r.removed ≡ length (sift (λ x. not (active t x)) (records register))
    says_how_many = sweep_counts t register r b o z ∙ ap length (going_inactive t (records register))

    pub used_fall : used_in b + r.removed ≡ used_in register
    used_fall = laws.used_fall t register r b o z

    -- "A register of mostly ended tags answers 33. The freed slots are used by the next import": an import into it that takes no more lines
    -- than records went, whoever sends it and in whichever mode, does not answer 33
    pub next_import : (f : Handed) (q : Imported) (b' g : List ℕ) → Import f b q b' g
        → (vs : List ℕ) → Verdicts f.rows (sender f.hgv) (records b) (lines_of f.hgv) vs → tally good vs ≤ r.removed → q.number ≡ 33 → ⊥
    next_import = laws.next_import t register r b o z

    -- a second sweep at T or earlier removes none, and leaves every byte
    pub second_none : (t' : List ℕ) → earlier t t' ≡ false → (r' : Swept) (b' : List ℕ) → Sweep t' b r' b' → (r'.removed ≡ 0) × (b' ≡ b)
    second_none t' e r' b' d =
        let n : r'.removed ≡ 0 = laws.second_none t register r b o z t' e r' b' d in
        (n, laws.idle_register t' b r' b' d n)

    -- keeping a provider's records and sweeping commute
    pub own_swept : (who : List ℕ) → own who (records b) ≡ sift (active t) (own who (records register))
    unfolding own
    own_swept who = rw (sweep_holds t register r b o z).held (laws.sift_staying who t (records register) ∙ staying_active t (sift (of_actor who) (records register)))

  -- a lookup by plate at any time from T on answers after it what it answered before: the same number, and the same bytes
  pub plate_same : (p n t' : List ℕ) → earlier t' t ≡ false → (part part' : List ℕ) (number number' : ℕ)
      → ByPlate register p n t' part number → ByPlate b p n t' part' number' → (part ≡ part') × (number ≡ number')
  plate_same = laws.same_plate t register r b o

  -- where none went, nothing changed
  pub none_went : r.removed ≡ 0 → b ≡ register
  none_went = laws.idle_register t register r b o

-- A provider who was not told of a sweep gets right by his next full list: what an update in mode 2 leaves does not hang on what the copy held
pub full_mends : (s : Sent) → s.mode ≡ full → (copy copy' : List ℕ) → slots_in copy ≡ slots_in copy' → (u u' : Counted) (c c' : List ℕ)
    → Update s copy u c → u.number ≡ 0 → Update s copy' u' c' → u'.number ≡ 0 → c ≡ c'
full_mends = mended.full_mends
