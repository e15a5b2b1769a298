-- What a search by PAN finds, in the words of the rules: a slot with it, and the place of the first. Assumes nothing.
use Rattle.std.specs.Prelude.{◌≡◌, Bool, true, false, cond, Option, None, Some, List, ℕ, ◌≤◌, ltb, length}
use Rattle.std.proofs.Common.{refl, arith, ltb-false}
use Rattle.theory.specs.Walk.{some}
use Rattle.theory.specs.Place.{place}
use Rattle.theory.specs.laws.Place.{place_most, place_some}
use Rattle.theory.specs.laws.Words.{place_is}
use Rattle.slots.specs.Slots.{slots_of}
use Rattle.slots.specs.Search.{holds_pan, place_of}
use Rattle.slots.specs.Promises.{Find}

-- the place that was found, or else n
abbrev pub place_or : ℕ → Option ℕ → ℕ
place_or n None = n
place_or n (Some i) = i

-- was one found
abbrev pub is_found : Option ℕ → Bool
is_found None = false
is_found (Some i) = true

module _ (b pan : List ℕ) (r : Option ℕ) (f : Find b pan r) where
  -- the place, or the number of slots
  pub find_place : place_or (length (slots_of b)) r ≡ place_of pan (slots_of b)
  unfolding place_of
  find_place =
      let xs : List (List ℕ) = slots_of b in
      let m : ℕ = place (holds_pan pan) xs in
      rw (f, ← place_is (holds_pan pan) xs) (go m (length xs) (ltb m (length xs)) refl (place_most (holds_pan pan) xs))
    where
      go : (m n : ℕ) (t : Bool) → ltb m n ≡ t → m ≤ n → place_or n (cond t (Some m) None) ≡ m
      go m n true e h = refl
      go m n false e h = omega (arith, ltb-false m n e)

  pub find_some : is_found r ≡ some (holds_pan pan) (slots_of b)
  find_some =
      let xs : List (List ℕ) = slots_of b in
      let m : ℕ = place (holds_pan pan) xs in
      rw (f, ← place_is (holds_pan pan) xs, place_some (holds_pan pan) xs) (go m (ltb m (length xs)))
    where
      go : (m : ℕ) (t : Bool) → is_found (cond t (Some m) None) ≡ t
      go m true = refl
      go m false = refl
