-- Two outcomes of one call are one, for the public function of this crate. Assumes nothing.
use Rattle.std.specs.Prelude.{◌≡◌, Bool, List, ℕ}
use Rattle.theory.specs.laws.Outcome.{one_outcome}
use Rattle.thinness.specs.Promises.{IsThin}

pub is_thin_one : (mode : ℕ) (register who : List ℕ) (taken : ℕ) (r s : Bool) → IsThin mode register who taken r → IsThin mode register who taken s → r ≡ s
is_thin_one mode register who taken r s = one_outcome
