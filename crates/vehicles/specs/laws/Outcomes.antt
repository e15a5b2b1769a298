-- Two outcomes of one call are one, for each public function of this crate. Assumes nothing.
use Rattle.std.specs.Prelude.{◌≡◌, Bool, List, ℕ}
use Rattle.theory.specs.laws.Outcome.{one_outcome}
use Rattle.vehicles.specs.Promises.{HoldsVehicle}

pub holds_vehicle_one : (l : List ℕ) (r s : Bool) → HoldsVehicle l r → HoldsVehicle l s → r ≡ s
holds_vehicle_one l r s = one_outcome
