-- What the lookups called from outside cite. Assumes nothing.
use mathlib.Core.Path.{◌≡◌, refl, sym, ◌∙◌}
use mathlib.Core.Bool.{Bool, true, false}
use mathlib.Core.List.{List}
use Prim.Native.Nat.{ℕ, ◌*◌, ◌≤◌}
use native.Mathlib.Omega.{arith}
use lib.Dec.{eqb}
use lib.ListN.{length}
use Rattle.theory.specs.First.{choose}
use Rattle.sizes.specs.Sizes.{slot_length}
use Rattle.lookups.specs.Lookup.{Found, found_at, pan_number, pan_place, plate_number, plate_place}
use Rattle.lookups.specs.laws.Found.{at_number, at_place, pan_room, plate_room}
use Rattle.service_lookups.specs.Stands.{start_of, pan_start, pan_slot_length, plate_start, plate_slot_length}
use Rattle.service_lookups.specs.laws.Stands.{pan_size, plate_size}

-- found is the answer with the record at place i
module _ (number i : ℕ) (found : Found) (e : found ≡ found_at number i) where
  found_start : found.place * slot_length ≡ start_of number i
  unfolding start_of choose
  found_start = rw (at_place number i found e) (go (eqb number 0))
    where
      go : (t : Bool) → choose t i 0 * slot_length ≡ choose t (i * slot_length) 0
      go true = refl
      go false = refl

  found_within : (b : List ℕ) → i * slot_length ≤ length b → found.place * slot_length ≤ length b
  unfolding start_of choose
  found_within b h = rw found_start (go (eqb number 0))
    where
      go : (t : Bool) → choose t (i * slot_length) 0 ≤ length b
      go true = h
      go false = omega arith

module _ (b key : List ℕ) (found : Found) (e : found ≡ found_at (pan_number b key) (pan_place b key)) where
  pub pan_within : found.place * slot_length ≤ length b
  pan_within = found_within (pan_number b key) (pan_place b key) found e b (pan_room b key)

  -- s is where the slot was said to start, and l how long it was said to be
  pub pan_told : (v : ℕ) → v ≡ found.number → (s : ℕ) → s ≡ found.place * slot_length → (l : ℕ) → l ≡ choose (eqb found.number 0) slot_length 0
      → (v ≡ pan_number b key) × ((s ≡ pan_start b key) × (l ≡ pan_slot_length b key))
  unfolding pan_start
  pan_told v h s f l g =
      let n : found.number ≡ pan_number b key = at_number (pan_number b key) (pan_place b key) found e in
      (h ∙ n, (f ∙ found_start (pan_number b key) (pan_place b key) found e, g ∙ rw n (sym (pan_size b key))))

module _ (b p n t : List ℕ) (found : Found) (e : found ≡ found_at (plate_number b p n t) (plate_place b p n t)) where
  pub plate_within : found.place * slot_length ≤ length b
  plate_within = found_within (plate_number b p n t) (plate_place b p n t) found e b (plate_room b p n t)

  pub plate_told : (v : ℕ) → v ≡ found.number → (s : ℕ) → s ≡ found.place * slot_length → (l : ℕ) → l ≡ choose (eqb found.number 0) slot_length 0
      → (v ≡ plate_number b p n t) × ((s ≡ plate_start b p n t) × (l ≡ plate_slot_length b p n t))
  unfolding plate_start
  plate_told v h s f l g =
      let m : found.number ≡ plate_number b p n t = at_number (plate_number b p n t) (plate_place b p n t) found e in
      (h ∙ m, (f ∙ found_start (plate_number b p n t) (plate_place b p n t) found e, g ∙ rw m (sym (plate_size b p n t))))
