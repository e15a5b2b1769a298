-- Two outcomes of one call are one, for the public function of this crate. Assumes nothing.
use Rattle.std.specs.Prelude.{◌≡◌, List, ℕ}
use Rattle.theory.specs.laws.Outcome.{one_outcome}
use Rattle.accounts.specs.Promises.{PutLine}

pub put_line_one : (text : List ℕ) (from : ℕ) (sender a r s : List ℕ)
    → PutLine text from sender a r → PutLine text from sender a s → r ≡ s
put_line_one text from sender a r s = one_outcome
