-- What the lookups learn from the search. Assumes nothing.
use mathlib.Core.Path.{◌≡◌, refl, sym, ◌∙◌}
use mathlib.Core.Bool.{Bool, true, false, not, cond}
use mathlib.Core.List.{List, [], ◌∷◌}
use Prim.Native.Nat.{ℕ, zero, suc, ◌+◌, ◌*◌, ◌≤◌, ◌<◌}
use native.Mathlib.Omega.{arith}
use Rattle.std.specs.Prelude.{Option, Some, None, Result, Ok, Err}
use Rattle.std.specs.Option.{ok_or}
use Rattle.std.specs.List.{position, list_any}
use lib.Dec.{eqb, ltb}
use lib.ListN.{length, drop}
use borrow.Author.Tests.{not-true, not-false, eq-eqb, ne_eqb, ltb-true, lt-ltb}
use Rattle.theory.specs.First.{choose}
use Rattle.theory.specs.Parts.{part_at}
use Rattle.theory.specs.Walk.{some}
use Rattle.theory.specs.Keep.{sift, onto}
use Rattle.theory.specs.Place.{place, place_on}
use Rattle.theory.specs.laws.Counting.{sift_some}
use Rattle.theory.specs.laws.Place.{place_some}
use Rattle.theory.specs.laws.Words.{some_is, place_is}
use Rattle.sizes.specs.Sizes.{slot_length}
use Rattle.rules.specs.declared.refusal.Refusal.{Refusal}
use Rattle.rules.specs.declared.refusal.Refusal.TheVariants as refusal
use Rattle.rules.specs.Numbers.{refusal_number}
use Rattle.rules.specs.laws.Numbers.{refusal_some}
use Rattle.slots.specs.Slots.{slots_of, records, used_part}
use Rattle.slots.specs.Search.{holds_pan}
use Rattle.slots.specs.laws.Slots.{slots_used}
use Rattle.slots.specs.laws.Search.{place_or, is_found, find_place, find_some}
use Rattle.slots.specs.Promises.{Find}
use Rattle.lookups.specs.Lookup.{told, found_at, pan_number, pan_place, pan_slot, plate_number, plate_place, plate_slot, fits_plate, fitting_in}
use Rattle.lookups.specs.laws.Only.{only}
use Rattle.lookups.specs.laws.Found.{at_number, at_place, pan_fits, pan_refused, pan_part, plate_fits, plate_refused, plate_part}

-- ---- an answer, with the record at place i

module _ (number i p : ℕ) (e : told (Ok p) ≡ found_at number i) where
  granted : number ≡ 0
  granted = sym (at_number number i (told (Ok p)) e)

  spot_is : p ≡ i
  unfolding choose
  spot_is = at_place number i (told (Ok p)) e ∙ rw (eq-eqb number 0 granted)

module _ (number i : ℕ) (x : Refusal) (e : told (Err x) ≡ found_at number i) where
  refused : number ≡ 0 → ⊥
  refused z = refusal_some x (at_number number i (told (Err x)) e ∙ z)

-- ---- the slot lent

module _ (b key : List ℕ) (p : ℕ) (e : told (Ok p) ≡ found_at (pan_number b key) (pan_place b key)) where
  pub pan_lies : p * slot_length + slot_length ≤ length b
  pan_lies = rw (spot_is _ _ p e) (pan_fits b key (granted _ _ p e))

  pub pan_lent : (s : List ℕ) → s ≡ part_at slot_length p b → (0 ≡ pan_number b key) × (s ≡ pan_slot b key)
  pan_lent s h = (sym (granted _ _ p e), h ∙ rw (spot_is _ _ p e) (pan_part b key (granted _ _ p e)))

module _ (b key : List ℕ) (x : Refusal) (e : told (Err x) ≡ found_at (pan_number b key) (pan_place b key)) where
  pub pan_kept : (refusal_number x ≡ pan_number b key) × ([] ≡ pan_slot b key)
  pan_kept = (at_number _ _ (told (Err x)) e, sym (pan_refused b key (refused _ _ x e)))

module _ (b p n t : List ℕ) (i : ℕ) (e : told (Ok i) ≡ found_at (plate_number b p n t) (plate_place b p n t)) where
  pub plate_lies : i * slot_length + slot_length ≤ length b
  plate_lies = rw (spot_is _ _ i e) (plate_fits b p n t (granted _ _ i e))

  pub plate_lent : (s : List ℕ) → s ≡ part_at slot_length i b → (0 ≡ plate_number b p n t) × (s ≡ plate_slot b p n t)
  plate_lent s h = (sym (granted _ _ i e), h ∙ rw (spot_is _ _ i e) (plate_part b p n t (granted _ _ i e)))

module _ (b p n t : List ℕ) (x : Refusal) (e : told (Err x) ≡ found_at (plate_number b p n t) (plate_place b p n t)) where
  pub plate_kept : (refusal_number x ≡ plate_number b p n t) × ([] ≡ plate_slot b p n t)
  plate_kept = (at_number _ _ (told (Err x)) e, sym (plate_refused b p n t (refused _ _ x e)))

-- ---- the search by PAN

-- `used` is the used part, in which the PAN was looked for
module _ (b key used : List ℕ) (o : Option ℕ) (u : used ≡ used_part b) (f : Find used key o) where
  place_lem : place_or (length (slots_of used)) o ≡ pan_place b key
  unfolding pan_place
  place_lem = find_place used key o f ∙ rw (u, slots_used b)

  some_lem : is_found o ≡ some (holds_pan key) (records b)
  some_lem = find_some used key o f ∙ rw (u, slots_used b)

  pub pan_told : (r : Result ℕ Refusal) → r ≡ ok_or o refusal.NoRecord → told r ≡ found_at (choose (not (some (holds_pan key) (records b))) 41 0) (pan_place b key)
  unfolding found_at choose
  pan_told r e = rw (e, ← some_lem) (go o place_lem)
    where
      go : (o : Option ℕ) → place_or (length (slots_of used)) o ≡ pan_place b key → told (ok_or o refusal.NoRecord) ≡ found_at (choose (not (is_found o)) 41 0) (pan_place b key)
      go None h = refl
      go (Some i) h = rw h refl

-- ---- the search by plate

another : (k : ℕ) → ltb 1 (suc k) ≡ not (eqb k 0)
another zero = refl
another (suc k) = rw (lt-ltb 1 (suc (suc k)) (omega arith), ne_eqb (suc k) 0 (λ e. omega arith))

module _ (q : List ℕ → Bool) where
  -- another fits where one does behind the first
  behind : (xs : List (List ℕ)) → place q xs < length xs → ltb 1 (length (sift q xs)) ≡ list_any q (drop (place q xs + 1) xs)
  unfolding sift onto place place_on
  behind [] h = absurd (omega arith)
  behind (x ∷ xs) h = go (q x) h (behind xs)
    where
      go : (t : Bool) → place_on t (place q xs) < suc (length xs) → (place q xs < length xs → ltb 1 (length (sift q xs)) ≡ list_any q (drop (place q xs + 1) xs))
          → ltb 1 (length (onto t x (sift q xs))) ≡ list_any q (drop (place_on t (place q xs) + 1) (x ∷ xs))
      go true h ih = rw (← some_is q xs, sift_some q xs) (another (length (sift q xs)))
      go false h ih = let e : suc (place q xs) + 1 ≡ suc (place q xs + 1) = omega arith in rw e (ih (omega arith))

  only_is : (xs : List (List ℕ)) → only q xs (position q xs) ≡ found_at (choose (eqb (length (sift q xs)) 0) 41 (choose (ltb 1 (length (sift q xs))) 42 0)) (place q xs)
  unfolding found_at choose
  only_is xs = rw (← place_is q xs) (go (ltb (place q xs) (length xs)) refl)
    where
      k : ℕ
      k = length (sift q xs)

      some_at : (t : Bool) → ltb (place q xs) (length xs) ≡ t → not (eqb k 0) ≡ t
      some_at t e = sym (sift_some q xs) ∙ place_some q xs ∙ e

      on : (t : Bool) → cond t (record { number = 42; place = 0 }) (record { number = 0; place = place q xs }) ≡ found_at (choose false 41 (choose t 42 0)) (place q xs)
      on true = refl
      on false = refl

      go : (t : Bool) → ltb (place q xs) (length xs) ≡ t
          → only q xs (cond t (Some (place q xs)) None) ≡ found_at (choose (eqb k 0) 41 (choose (ltb 1 k) 42 0)) (place q xs)
      go true e = rw (not-true (eqb k 0) (some_at true e), ← behind xs (ltb-true (place q xs) (length xs) e)) (on (ltb 1 k))
      go false e = rw (not-false (eqb k 0) (some_at false e)) refl

-- `used` is the used part
module _ (b p n t used : List ℕ) (u : used ≡ used_part b) where
  pub plate_only : only (fits_plate p n t) (slots_of used) (position (fits_plate p n t) (slots_of used))
      ≡ found_at (choose (eqb (length (fitting_in b p n t)) 0) 41 (choose (ltb 1 (length (fitting_in b p n t))) 42 0)) (plate_place b p n t)
  unfolding fitting_in plate_place
  plate_only = rw (u, slots_used b) (only_is (fits_plate p n t) (records b))
