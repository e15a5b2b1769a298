-- Two outcomes of one call are one, for each public function of this crate. Assumes nothing.
use Rattle.std.specs.Prelude.{◌≡◌, Bool, List, ℕ}
use Rattle.theory.specs.laws.Outcome.{one_outcome}
use Rattle.fields.specs.Promises.{IsDigits, IsZeros, IsZeroBytes, IsBlanks, IsCapitals}

pub is_digits_one : (f : List ℕ) (n : ℕ) (r s : Bool) → IsDigits f n r → IsDigits f n s → r ≡ s
is_digits_one f n r s = one_outcome

pub is_zeros_one : (f : List ℕ) (n : ℕ) (r s : Bool) → IsZeros f n r → IsZeros f n s → r ≡ s
is_zeros_one f n r s = one_outcome

pub is_zero_bytes_one : (f : List ℕ) (n : ℕ) (r s : Bool) → IsZeroBytes f n r → IsZeroBytes f n s → r ≡ s
is_zero_bytes_one f n r s = one_outcome

pub is_blanks_one : (f : List ℕ) (n : ℕ) (r s : Bool) → IsBlanks f n r → IsBlanks f n s → r ≡ s
is_blanks_one f n r s = one_outcome

pub is_capitals_one : (f : List ℕ) (n : ℕ) (r s : Bool) → IsCapitals f n r → IsCapitals f n s → r ≡ s
is_capitals_one f n r s = one_outcome
