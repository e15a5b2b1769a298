-- What each public function of this crate promises. Assumes nothing.
use Rattle.std.specs.Prelude.{◌≡◌, Bool, List, ℕ}
use Rattle.vehicles.specs.Vehicle.{vehicle_holds}

abbrev pub HoldsVehicle : List ℕ → Bool → Type 0
HoldsVehicle l r = r ≡ vehicle_holds l
