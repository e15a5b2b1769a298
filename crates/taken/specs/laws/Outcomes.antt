-- Two outcomes of one call are one, for the public function of this crate. Assumes nothing.
use Rattle.std.specs.Prelude.{◌≡◌, List, ℕ}
use Rattle.theory.specs.laws.Outcome.{one_outcome}
use Rattle.taken.specs.Promises.{CountTaken}

pub count_taken_one : (vs : List ℕ) (r s : ℕ) → CountTaken vs r → CountTaken vs s → r ≡ s
count_taken_one vs r s = one_outcome
