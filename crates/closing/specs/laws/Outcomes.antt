-- Two outcomes of one call are one, for the public function of this crate. Assumes nothing.
use Rattle.std.specs.Prelude.{◌≡◌, List, ℕ}
use Rattle.theory.specs.laws.Outcome.{one_outcome}
use Rattle.closing.specs.Promises.{CloseUp}

pub close_up_one : (block marks : List ℕ) (r r' : ℕ) (after after' : List ℕ)
    → CloseUp block marks r after → CloseUp block marks r' after' → (r ≡ r') × (after ≡ after')
close_up_one block marks r r' after after' h k = (one_outcome h.1 k.1, one_outcome h.0 k.0)
