-- What a sweep leaves, of any outcome that its contract admits: the register in order, the lookups from its time on, a provider's own
-- records; his copy beside the register stands in proofs/Sweeps. Assumes nothing.
use Rattle.std.specs.Prelude.{◌≡◌, refl, Bool, true, false, not, ◌&&◌, List, [], ℕ, zero, suc, ◌+◌, ◌≤◌, ◌<◌, ltb, length}
use Rattle.std.proofs.Math.Path.{sym}
use Rattle.std.proofs.Common.{ap, ◌∙◌, arith, ltb-true}
use Rattle.theory.specs.laws.Truth.{and_right}
use Rattle.theory.specs.Same.{eqs}
use Rattle.theory.specs.First.{first, choose}
use Rattle.theory.specs.Keep.{sift}
use Rattle.theory.specs.laws.Keep.{sift_apart, sift_inside, sift_swap}
use Rattle.theory.specs.Pick.{good}
use Rattle.theory.specs.Tally.{tally}
use Rattle.times.specs.Order.{earlier}
use Rattle.columns.specs.Columns.{plate_of, nationality_of}
use Rattle.lines.specs.End.{active}
use Rattle.records.specs.Slot.{slot_of}
use Rattle.header.specs.Header.{sender}
use Rattle.hgv.specs.Layout.{lines_of}
use Rattle.slots.specs.Slots.{slots_in, records, used_in}
use Rattle.slots.specs.Search.{of_actor}
use Rattle.slots.specs.laws.Slots.{used_most}
use Rattle.register.specs.Register.{in_order}
use Rattle.register.specs.laws.Register.{ordered}
use Rattle.activity.specs.laws.Since.{active_since}
use Rattle.lookups.specs.Lookup.{fits_plate, fitting_in, plate_rules, plate_number, plate_slot}
use Rattle.lookups.specs.Promises.{ByPlate}
use Rattle.lookups.specs.laws.Outcomes.{by_plate_one}
use Rattle.verdicts.specs.Verdict.{taken}
use Rattle.holdings.specs.laws.Room.{holdings_most}
use Rattle.thinness.specs.Thin.{thin}
use Rattle.imports.specs.Imported.{Imported}
use Rattle.imports.specs.Handed.{Handed}
use Rattle.imports.specs.Import.{judged, file_stamp, following, confirmed, judged_stops}
use Rattle.importer.specs.Promises.{Import}
use Rattle.imports.specs.laws.Numbers.{Formed}
use Rattle.imports.specs.laws.Thin.{length_taken}
use Rattle.sweeping.specs.Swept.{Swept}
use Rattle.sweeping.specs.Sweep.{ended, going, staying}
use Rattle.sweeping.specs.Promises.{Sweep}
use Rattle.sweeping.specs.laws.Sweep.{stays_active, goes_or_stays, staying_active, none_goes, sweep_refused, sweep_ordered, sweep_counts, sweep_holds}
use Rattle.demands.specs.Own.{own}
use Rattle.demands.specs.Verdicts.{Verdicts}
use Rattle.demands.specs.laws.Judging.{judged_is}
use Rattle.demands.specs.laws.Imports.{judged_number, form_clear}

-- keeping a provider's records and sweeping commute
pub sift_staying : (who t : List ℕ) (R : List (List ℕ)) → sift (of_actor who) (staying t R) ≡ staying t (sift (of_actor who) R)
unfolding staying
sift_staying who t R = sift_swap (of_actor who) (λ r. not (ended t r)) R

pub own_staying : (who t : List ℕ) (R : List (List ℕ)) → own who (staying t R) ≡ staying t (own who R)
unfolding own
own_staying = sift_staying

-- what is active at a time was not ended before
stays_since : (s t r : List ℕ) → earlier t s ≡ false → active t r ≡ true → ended s r ≡ false
stays_since s t r h k = stays_active s r (active_since s t r h k)

-- a lookup by plate asks of a register its order and the records that fit
fitting_same : (b c p n t part : List ℕ) (number : ℕ) → in_order b ≡ in_order c → fitting_in b p n t ≡ fitting_in c p n t → ByPlate c p n t part number → ByPlate b p n t part number
unfolding plate_slot plate_number plate_rules
fitting_same b c p n t part number i f y = rw (i, f) y

-- 33 is answered where more records would follow than there are slots
no_room : (f : Handed) (register : List ℕ) (q : Imported) (b g : List ℕ) → Import f register q b g → q.number ≡ 33 → slots_in register < length (following f register)
unfolding judged_stops first choose
no_room f register q b g i e =
    go (thin f.mode (sender f.hgv) (records register) (tally good (judged register f.rows f.hgv))) (ltb (slots_in register) (length (following f register)))
    (ltb (length f.hgc) (length (confirmed f register))) refl (judged_number f register q b g i 33 (omega arith) e)
  where
    go : (t s u : Bool) → ltb (slots_in register) (length (following f register)) ≡ s → choose t 35 (choose s 33 (choose u 34 0)) ≡ 33 → slots_in register < length (following f register)
    go true s u h k = absurd (omega arith)
    go false true u h k = ltb-true (slots_in register) (length (following f register)) h
    go false false true h k = absurd (omega arith)
    go false false false h k = absurd (omega arith)

-- no more follow than there were, and one for each line taken
follow_most : (f : Handed) (register : List ℕ) → Formed f register → length (following f register) ≤ used_in register + tally good (judged register f.rows f.hgv)
unfolding following
follow_most f register c = omega (arith, holdings_most f.mode (sender f.hgv) (slot_of (file_stamp f)) (records register) (taken (judged register f.rows f.hgv) f.hgv), length_taken f register c)

module _ (t register : List ℕ) (r : Swept) (b : List ℕ) (o : Sweep t register r b) where
  -- the used slots fall by the number answered
  pub used_fall : r.number ≡ 0 → used_in b + r.removed ≡ used_in register
  used_fall z = omega (arith, ap length (sweep_holds t register r b o z).held, sweep_counts t register r b o z, goes_or_stays t (records register))

  -- a register of which none went is as it was
  pub idle_register : r.removed ≡ 0 → b ≡ register
  idle_register e = go r.number refl
    where
      go : (n : ℕ) → r.number ≡ n → b ≡ register
      go zero z =
          let s : staying t (records register) ≡ records register = none_goes t (records register) (sym (sweep_counts t register r b o z) ∙ e) in
          (rw s at (sweep_holds t register r b o z).bytes) ∙ sym (ordered register (sweep_ordered t register r b o z)).padded
      go (suc n) k = (sweep_refused t register r b o (λ z. omega arith)).1

  -- in order it stays in order, of as many slots
  pub after_sweep : in_order register ≡ true → (in_order b ≡ true) × (slots_in b ≡ slots_in register)
  after_sweep h = go r.number refl
    where
      go : (n : ℕ) → r.number ≡ n → (in_order b ≡ true) × (slots_in b ≡ slots_in register)
      go zero z = ((sweep_holds t register r b o z).order, (sweep_holds t register r b o z).many)
      go (suc n) k = rw (sweep_refused t register r b o (λ z. omega arith)).1 (h, refl)

  -- ---- a second sweep, at its time or earlier

  module _ (z : r.number ≡ 0) (t' : List ℕ) (e : earlier t t' ≡ false) (r' : Swept) (b' : List ℕ) (d : Sweep t' b r' b') where
    -- whatever stayed stays
    none_left : going t' (records b) ≡ []
    unfolding going
    none_left =
        rw ((sweep_holds t register r b o z).held, staying_active t (records register))
        (sift_apart (ended t') (active t) (λ x k. stays_since t' t x e k) (records register))

    pub second_none : r'.removed ≡ 0
    second_none = go r'.number refl
      where
        go : (n : ℕ) → r'.number ≡ n → r'.removed ≡ 0
        go zero y = sweep_counts t' b r' b' d y ∙ rw none_left
        go (suc n) k = ap (λ (x : Swept). x.removed) (sweep_refused t' b r' b' d (λ y. omega arith)).0

  -- ---- a lookup by plate, at its time or later

  module _ (p n t' : List ℕ) (e : earlier t' t ≡ false) where
    -- the same records fit
    same_fit : r.number ≡ 0 → fitting_in b p n t' ≡ fitting_in register p n t'
    unfolding fitting_in fits_plate
    same_fit z =
        rw ((sweep_holds t register r b o z).held, staying_active t (records register))
        (sift_inside (fits_plate p n t') (active t) (λ x k. active_since t t' x e (and_right (eqs (plate_of x) p && eqs (nationality_of x) n) (active t' x) k)) (records register))

    pub same_plate : (part part' : List ℕ) (number number' : ℕ) → ByPlate register p n t' part number → ByPlate b p n t' part' number'
        → (part ≡ part') × (number ≡ number')
    same_plate part part' number number' x y = by_plate_one register p n t' part part' number number' x (go r.number refl)
      where
        go : (k : ℕ) → r.number ≡ k → ByPlate register p n t' part' number'
        go zero z =
            let i : in_order register ≡ in_order b = sweep_ordered t register r b o z ∙ sym (sweep_holds t register r b o z).order in
            fitting_same register b p n t' part' number' i (sym (same_fit z)) y
        go (suc k) f = rw (← (sweep_refused t register r b o (λ z. omega arith)).1) y

  -- ---- the next import

  -- has the freed slots: where it takes no more lines than went, it is not refused for want of slots
  pub next_import : r.number ≡ 0 → (f : Handed) (q : Imported) (b' g : List ℕ) → Import f b q b' g
      → (vs : List ℕ) → Verdicts f.rows (sender f.hgv) (records b) (lines_of f.hgv) vs → tally good vs ≤ r.removed → q.number ≡ 33 → ⊥
  next_import z f q b' g i vs v l e =
      let k = sweep_holds t register r b o z in
      let c = form_clear f b q b' g i 33 (omega arith) e in
      omega (
        arith,
        no_room f b q b' g i e,
        follow_most f b c,
        ap (tally good) (judged_is b f.rows f.hgv vs v),
        used_fall z,
        used_most register,
        k.many,
      )
