-- What each public function of this crate promises. Assumes nothing.
use Rattle.std.specs.Prelude.{◌≡◌, List, ℕ}
use Rattle.lookups.specs.Lookup.{Found, found_at, pan_number, pan_place, pan_slot, plate_number, plate_place, plate_slot}

-- the number, and the place of the record
abbrev pub FindByPan : List ℕ → List ℕ → Found → Type 0
FindByPan b key r = r ≡ found_at (pan_number b key) (pan_place b key)

-- the part handed back, and the number written
abbrev pub ByPan : List ℕ → List ℕ → List ℕ → ℕ → Type 0
ByPan b key part number =
    (number ≡ pan_number b key)
    × (part ≡ pan_slot b key)

abbrev pub FindByPlate : List ℕ → List ℕ → List ℕ → List ℕ → Found → Type 0
FindByPlate b p n t r = r ≡ found_at (plate_number b p n t) (plate_place b p n t)

abbrev pub ByPlate : List ℕ → List ℕ → List ℕ → List ℕ → List ℕ → ℕ → Type 0
ByPlate b p n t part number =
    (number ≡ plate_number b p n t)
    × (part ≡ plate_slot b p n t)
