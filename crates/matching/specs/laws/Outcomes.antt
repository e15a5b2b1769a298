-- Two outcomes of one call are one, for the public function of this crate. Assumes nothing.
use Rattle.std.specs.Prelude.{◌≡◌, Bool, List, ℕ}
use Rattle.theory.specs.laws.Outcome.{one_outcome}
use Rattle.matching.specs.Promises.{LinesHold}

pub lines_hold_one : (h g marks : List ℕ) (r r' : Bool) (after after' : List ℕ)
    → LinesHold h g marks r after → LinesHold h g marks r' after' → (r ≡ r') × (after ≡ after')
lines_hold_one h g marks r r' after after' o o' = (one_outcome o.0 o'.0, one_outcome o.1 o'.1)
