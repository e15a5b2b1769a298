-- What each public function of this crate promises. Assumes nothing.
use Rattle.std.specs.Prelude.{◌≡◌, Bool, List, ℕ}
use Rattle.weights.specs.Weights.{weight_holds}

abbrev pub HoldsWeight : List ℕ → Bool → Type 0
HoldsWeight l r = r ≡ weight_holds l
