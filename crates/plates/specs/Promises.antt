-- What each public function of this crate promises. Assumes nothing.
use Rattle.std.specs.Prelude.{◌≡◌, Bool, List, ℕ}
use Rattle.plates.specs.Plate.{plate, plate_characters, nationality, separator}

abbrev pub PlateCharacters : List ℕ → ℕ → Type 0
PlateCharacters f r = r ≡ plate_characters f

abbrev pub IsPlate : List ℕ → Bool → Type 0
IsPlate f r = r ≡ plate f

abbrev pub IsNationality : List ℕ → Bool → Type 0
IsNationality f r = r ≡ nationality f

-- of a plate of k characters
abbrev pub IsSeparator : List ℕ → ℕ → Bool → Type 0
IsSeparator f k r = r ≡ separator f k
