-- What each public function of this crate promises. Assumes nothing.
use Rattle.std.specs.Prelude.{◌≡◌, List, ℕ, get_or}
use Rattle.slots.specs.Slots.{records}
use Rattle.holdings.specs.Room.{used_by}
use Rattle.holdings.specs.Places.{places_after}

-- the place found for the line i
abbrev pub PlaceAt : List ℕ → ℕ → ℕ → Type 0
PlaceAt found i r = r ≡ get_or found i 0

-- where the PANs of the taken lines stand, in the block after it
abbrev pub FindPlaces : ℕ → List ℕ → List ℕ → ℕ → List ℕ → List ℕ → List ℕ → Type 0
FindPlaces mode register lines width vs found after = after ≡ places_after mode (records register) width lines vs found

-- how many slots are used once the taken lines are applied, by the places told
abbrev pub UsedAfter : ℕ → List ℕ → List ℕ → List ℕ → List ℕ → ℕ → Type 0
UsedAfter mode register who vs found r = r ≡ used_by mode who (records register) vs found
