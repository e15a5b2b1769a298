-- Two outcomes of one call are one, for each public function of this crate. Assumes nothing.
use Rattle.std.specs.Prelude.{◌≡◌, List, ℕ}
use Rattle.theory.specs.laws.Outcome.{one_outcome}
use Rattle.numbers.specs.Promises.{Number, PutNumber, PutZeros}

pub number_one : (f : List ℕ) (r s : ℕ) → Number f r → Number f s → r ≡ s
number_one f r s = one_outcome

pub put_number_one : (text : List ℕ) (from width v : ℕ) (r s : List ℕ)
    → PutNumber text from width v r → PutNumber text from width v s → r ≡ s
put_number_one text from width v r s = one_outcome

pub put_zeros_one : (text : List ℕ) (from n : ℕ) (r s : List ℕ) → PutZeros text from n r → PutZeros text from n s → r ≡ s
put_zeros_one text from n r s = one_outcome
