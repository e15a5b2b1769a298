-- Two outcomes of one call are one, for each public function of this crate. Assumes nothing.
use Rattle.std.specs.Prelude.{◌≡◌, Bool, List, ℕ}
use Rattle.theory.specs.laws.Outcome.{one_outcome}
use Rattle.weights.specs.Promises.{HoldsWeight}

pub holds_weight_one : (l : List ℕ) (r s : Bool) → HoldsWeight l r → HoldsWeight l s → r ≡ s
holds_weight_one l r s = one_outcome
