-- What a lookup called from Rust promises: the number returned, and the two numbers written, where the slot starts and
-- its size. Assumes nothing.
use Rattle.std.specs.Prelude.{◌≡◌, List, ℕ}
use Rattle.lookups.specs.Lookup.{pan_number, plate_number}
use Rattle.service_lookups.specs.Stands.{pan_start, pan_slot_length, plate_start, plate_slot_length}

abbrev pub GraftspindleByPan : List ℕ → List ℕ → ℕ → ℕ → ℕ → Type 0
GraftspindleByPan b key number start size =
    (number ≡ pan_number b key)
    × ((start ≡ pan_start b key)
    × (size ≡ pan_slot_length b key))

abbrev pub GraftspindleByPlate : List ℕ → List ℕ → List ℕ → List ℕ → ℕ → ℕ → ℕ → Type 0
GraftspindleByPlate b p n t number start size =
    (number ≡ plate_number b p n t)
    × ((start ≡ plate_start b p n t)
    × (size ≡ plate_slot_length b p n t))
