-- Where the slot stands that a lookup answers with, and how long it is. Assumes nothing.
use Rattle.std.specs.Prelude.{ℕ, ◌*◌, List, eqb, length}
use Rattle.theory.specs.First.{choose}
use Rattle.sizes.specs.Sizes.{slot_length}
use Rattle.lookups.specs.Lookup.{pan_number, pan_place, pan_slot, plate_number, plate_place, plate_slot}

-- where the slot at a place starts; 0 at a refusal
unfoldable pub start_of : ℕ → ℕ → ℕ
start_of number place = choose (eqb number 0) (place * slot_length) 0

unfoldable pub pan_start : List ℕ → List ℕ → ℕ
pan_start b key = start_of (pan_number b key) (pan_place b key)

unfoldable pub pan_slot_length : List ℕ → List ℕ → ℕ
pan_slot_length b key = length (pan_slot b key)

unfoldable pub plate_start : List ℕ → List ℕ → List ℕ → List ℕ → ℕ
plate_start b p n t = start_of (plate_number b p n t) (plate_place b p n t)

unfoldable pub plate_slot_length : List ℕ → List ℕ → List ℕ → List ℕ → ℕ
plate_slot_length b p n t = length (plate_slot b p n t)
