-- Two outcomes of one call are one, for each public function of this crate. Assumes nothing.
use Rattle.std.specs.Prelude.{◌≡◌, List, ℕ}
use Rattle.theory.specs.laws.Outcome.{one_outcome}
use Rattle.writing.specs.Promises.{Copy, PutField}

pub copy_one : (to from r s : List ℕ) → Copy to from r → Copy to from s → r ≡ s
copy_one to from r s = one_outcome

pub put_field_one : (text : List ℕ) (from : ℕ) (f r s : List ℕ)
    → PutField text from f r → PutField text from f s → r ≡ s
put_field_one text from f r s = one_outcome
