-- Two outcomes of one call are one, for the public function of this crate. Assumes nothing.
use Rattle.std.specs.Prelude.{◌≡◌, Bool, List, ℕ}
use Rattle.theory.specs.laws.Outcome.{one_outcome}
use Rattle.receipts.specs.Promises.{Says}

pub says_one : (h g : List ℕ) (r s : Bool) → Says h g r → Says h g s → r ≡ s
says_one h g r s = one_outcome
