-- Two outcomes of one call are one, for each public function of this crate. Assumes nothing.
use Rattle.std.specs.Prelude.{◌≡◌, Bool, List, ℕ}
use Rattle.theory.specs.laws.Outcome.{one_outcome}
use Rattle.plates.specs.Promises.{PlateCharacters, IsPlate, IsNationality, IsSeparator}

pub plate_characters_one : (f : List ℕ) (r s : ℕ) → PlateCharacters f r → PlateCharacters f s → r ≡ s
plate_characters_one f r s = one_outcome

pub is_plate_one : (f : List ℕ) (r s : Bool) → IsPlate f r → IsPlate f s → r ≡ s
is_plate_one f r s = one_outcome

pub is_nationality_one : (f : List ℕ) (r s : Bool) → IsNationality f r → IsNationality f s → r ≡ s
is_nationality_one f r s = one_outcome

pub is_separator_one : (f : List ℕ) (k : ℕ) (r s : Bool) → IsSeparator f k r → IsSeparator f k s → r ≡ s
is_separator_one f k r s = one_outcome
