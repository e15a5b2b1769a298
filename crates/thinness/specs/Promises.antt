-- What the public function of this crate promises. Assumes nothing.
use Rattle.std.specs.Prelude.{◌≡◌, Bool, List, ℕ}
use Rattle.slots.specs.Slots.{records}
use Rattle.thinness.specs.Thin.{thin}

abbrev pub IsThin : ℕ → List ℕ → List ℕ → ℕ → Bool → Type 0
IsThin mode register who taken r = r ≡ thin mode who (records register) taken
