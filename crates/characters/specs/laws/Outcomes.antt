-- Two outcomes of one call are one, for each public function of this crate. Assumes nothing.
use Rattle.std.specs.Prelude.{◌≡◌, Bool, List, ℕ}
use Rattle.theory.specs.laws.Outcome.{one_outcome}
use Rattle.characters.specs.Promises.{IsHex, DigitsIn, IsFilled}

pub is_hex_one : (f : List ℕ) (n : ℕ) (r s : Bool) → IsHex f n r → IsHex f n s → r ≡ s
is_hex_one f n r s = one_outcome

pub digits_in_one : (f : List ℕ) (r s : ℕ) → DigitsIn f r → DigitsIn f s → r ≡ s
digits_in_one f r s = one_outcome

pub is_filled_one : (f : List ℕ) (k : ℕ) (r s : Bool) → IsFilled f k r → IsFilled f k s → r ≡ s
is_filled_one f k r s = one_outcome
