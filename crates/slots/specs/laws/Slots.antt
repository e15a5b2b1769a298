-- The records of a block are its first slots, and the used part is their bytes. Assumes nothing.
use Rattle.std.specs.Prelude.{◌≡◌, Bool, true, false, not, cond, List, [], ◌∷◌, ℕ, ◌+◌, ◌*◌, ◌≤◌, length, take}
use Rattle.std.specs.List.{prefix_len}
use Rattle.std.proofs.Common.{refl, sym, ◌∙◌, arith, mul-le-mul_right, div-mul-le_self, mul-div_cancel, length-take-le}
use Rattle.theory.specs.Parts.{chop}
use Rattle.theory.specs.laws.Parts.{length_chop}
use Rattle.theory.specs.laws.Join.{chop_take}
use Rattle.theory.specs.Place.{place}
use Rattle.theory.specs.laws.Place.{place_most, length_front_place, front_chop, take_chop}
use Rattle.theory.specs.Pad.{front, front_on}
use Rattle.sizes.specs.Sizes.{slot_length}
use Rattle.slots.specs.Slots.{slots_in, slots_of, marked, records, used_in, used_part}

front_prefix : (q : List ℕ → Bool) (xs : List (List ℕ)) → length (front q xs) ≡ prefix_len q xs
unfolding front front_on
front_prefix q [] = refl
front_prefix q (x ∷ xs) = rw (← front_prefix q xs) (on (q x))
  where
    on : (t : Bool) → length (front_on t x (front q xs)) ≡ cond t (1 + length (front q xs)) 0
    on true = omega arith
    on false = refl

module _ (b : List ℕ) where
  -- the records are the longest front that is marked
  pub used_prefix : prefix_len marked (slots_of b) ≡ used_in b
  unfolding records
  used_prefix = sym (front_prefix marked (slots_of b))

  pub used_place : used_in b ≡ place (λ s. not (marked s)) (chop slot_length (slots_in b) b)
  unfolding records slots_of
  used_place = length_front_place marked (chop slot_length (slots_in b) b)

  pub used_most : used_in b ≤ slots_in b
  used_most = omega (arith, used_place, place_most (λ s. not (marked s)) (chop slot_length (slots_in b) b), length_chop slot_length (slots_in b) b)

  -- they are the first slots
  pub records_chop : records b ≡ chop slot_length (used_in b) b
  unfolding records slots_of
  records_chop = front_chop marked slot_length (slots_in b) b ∙ rw used_place

  pub records_take : take (used_in b) (slots_of b) ≡ records b
  unfolding slots_of
  records_take = take_chop slot_length (slots_in b) (used_in b) b used_most ∙ sym records_chop

  pub used_among : used_in b ≤ length (slots_of b)
  unfolding slots_of
  used_among = rw (length_chop slot_length (slots_in b) b) used_most

  -- and lie within the block
  pub used_fits : used_in b * slot_length ≤ length b
  used_fits = omega (arith, mul-le-mul_right slot_length used_most, div-mul-le_self (length b) slot_length)

-- the slots of the bytes in front are the first slots
pub slots_front : (b : List ℕ) (n : ℕ) → n * slot_length ≤ length b → slots_of (take (n * slot_length) b) ≡ chop slot_length n b
unfolding slots_of
slots_front b n h =
    let e : slots_in (take (n * slot_length) b) ≡ n = rw (length-take-le (n * slot_length) b h) (mul-div_cancel n (omega arith)) in
    rw e (chop_take slot_length n b h)

-- those of the used part are the records
pub slots_used : (b : List ℕ) → slots_of (used_part b) ≡ records b
unfolding used_part
slots_used b = slots_front b (used_in b) (used_fits b) ∙ sym (records_chop b)

-- and it has as many
pub used_slots : (b : List ℕ) → slots_in (used_part b) ≡ used_in b
unfolding used_part
used_slots b = rw (length-take-le (used_in b * slot_length) b (used_fits b)) (mul-div_cancel (used_in b) (omega arith))

-- as the code learns how many are used
pub used_room : (b : List ℕ) (used : ℕ) → used ≡ used_in b → used * slot_length ≤ length b
used_room b used u = rw u (used_fits b)
