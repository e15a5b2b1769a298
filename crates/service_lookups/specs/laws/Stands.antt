-- The part of the lent register at the start handed back, of the length handed back, is the lookup's slot; at a refusal
-- both are 0. Assumes nothing.
use Rattle.std.specs.Prelude.{◌≡◌, Bool, List, [], ℕ, ◌+◌, ◌*◌, ◌≤◌, drop}
use Rattle.std.proofs.Math.Path.{refl, sym, ap}
use Rattle.std.proofs.Common.{◌∙◌, eqb-true, ne_eqb}
use Rattle.std.proofs.Math.Bool.{true, false}
use Rattle.std.proofs.Math.Dec.{eqb}
use Rattle.std.proofs.Math.ListN.{length, take}
use Rattle.std.proofs.lemmas.Bool.{eqb-false}
use Rattle.theory.specs.First.{choose}
use Rattle.theory.specs.Parts.{part_at}
use Rattle.theory.specs.laws.Parts.{length_part}
use Rattle.sizes.specs.Sizes.{slot_length}
use Rattle.lookups.specs.Lookup.{pan_number, pan_place, pan_slot, plate_number, plate_place, plate_slot}
use Rattle.lookups.specs.laws.Found.{pan_fits, pan_refused, pan_part, plate_fits, plate_refused, plate_part}
use Rattle.service_lookups.specs.Stands.{start_of, pan_start, pan_slot_length, plate_start, plate_slot_length}

-- x is the part at place i where the number is 0, and else empty
module _ (number i : ℕ) (b x : List ℕ) (f : number ≡ 0 → (i * slot_length + slot_length ≤ length b) × (part_at slot_length i b ≡ x)) (g : (number ≡ 0 → ⊥) → x ≡ []) where
  size : length x ≡ choose (eqb number 0) slot_length 0
  unfolding choose
  size = go (eqb number 0) refl
    where
      go : (t : Bool) → eqb number 0 ≡ t → length x ≡ choose t slot_length 0
      go true e = let k = f (eqb-true number 0 e) in sym (ap length k.1) ∙ length_part slot_length i b k.0
      go false e = ap length (g (eqb-false number 0 e))

  stands : take (length x) (drop (start_of number i) b) ≡ x
  unfolding start_of choose part_at
  stands = rw size (go (eqb number 0) refl)
    where
      go : (t : Bool) → eqb number 0 ≡ t → take (choose t slot_length 0) (drop (choose t (i * slot_length) 0) b) ≡ x
      go true e = (f (eqb-true number 0 e)).1
      go false e = sym (g (eqb-false number 0 e))

module _ (b key : List ℕ) where
  pub pan_size : pan_slot_length b key ≡ choose (eqb (pan_number b key) 0) slot_length 0
  unfolding pan_slot_length
  pan_size = size (pan_number b key) (pan_place b key) b (pan_slot b key) (λ z. (pan_fits b key z, pan_part b key z)) (pan_refused b key)

  pub pan_stands : take (pan_slot_length b key) (drop (pan_start b key) b) ≡ pan_slot b key
  unfolding pan_slot_length pan_start
  pan_stands = stands (pan_number b key) (pan_place b key) b (pan_slot b key) (λ z. (pan_fits b key z, pan_part b key z)) (pan_refused b key)

  pub pan_zeros : (pan_number b key ≡ 0 → ⊥) → (pan_start b key ≡ 0) × (pan_slot_length b key ≡ 0)
  unfolding pan_start start_of choose pan_slot_length
  pan_zeros h = (rw (ne_eqb (pan_number b key) 0 h), ap length (pan_refused b key h))

module _ (b p n t : List ℕ) where
  pub plate_size : plate_slot_length b p n t ≡ choose (eqb (plate_number b p n t) 0) slot_length 0
  unfolding plate_slot_length
  plate_size =
      size (plate_number b p n t) (plate_place b p n t) b (plate_slot b p n t) (λ z. (plate_fits b p n t z, plate_part b p n t z)) (plate_refused b p n t)

  pub plate_stands : take (plate_slot_length b p n t) (drop (plate_start b p n t) b) ≡ plate_slot b p n t
  unfolding plate_slot_length plate_start
  plate_stands =
      stands (plate_number b p n t) (plate_place b p n t) b (plate_slot b p n t) (λ z. (plate_fits b p n t z, plate_part b p n t z)) (plate_refused b p n t)

  pub plate_zeros : (plate_number b p n t ≡ 0 → ⊥) → (plate_start b p n t ≡ 0) × (plate_slot_length b p n t ≡ 0)
  unfolding plate_start start_of choose plate_slot_length
  plate_zeros h = (rw (ne_eqb (plate_number b p n t) 0 h), ap length (plate_refused b p n t h))
