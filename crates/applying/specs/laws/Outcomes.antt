-- Two outcomes of one call are one, for the public function of this crate. Assumes nothing.
use Rattle.std.specs.Prelude.{◌≡◌, List, ℕ}
use Rattle.theory.specs.laws.Outcome.{one_outcome}
use Rattle.applying.specs.Promises.{Apply}

pub apply_one : (mode : ℕ) (b who list reception lines : List ℕ) (width : ℕ) (vs r s : List ℕ)
    → Apply mode b who list reception lines width vs r → Apply mode b who list reception lines width vs s → r ≡ s
apply_one mode b who list reception lines width vs r s h k = one_outcome h.bytes k.bytes
