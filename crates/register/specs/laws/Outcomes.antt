-- Two outcomes of one call are one, for the public function of this crate. Assumes nothing.
use Rattle.std.specs.Prelude.{◌≡◌, Bool, List, ℕ}
use Rattle.theory.specs.laws.Outcome.{one_outcome}
use Rattle.register.specs.Promises.{InOrder}

pub in_order_one : (b : List ℕ) (r s : Bool) → InOrder b r → InOrder b s → r ≡ s
in_order_one b r s = one_outcome
