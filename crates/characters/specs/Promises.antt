-- What each public function of this crate promises. Assumes nothing.
use Rattle.std.specs.Prelude.{◌≡◌, Bool, List, ℕ}
use Rattle.theory.specs.Every.{run, leading}
use Rattle.fields.specs.Field.{digit}
use Rattle.characters.specs.Characters.{hex, filled_to}

abbrev pub IsHex : List ℕ → ℕ → Bool → Type 0
IsHex f n r = r ≡ run hex n f

-- how many digits stand in front
abbrev pub DigitsIn : List ℕ → ℕ → Type 0
DigitsIn f r = r ≡ leading digit f

-- k characters and then blanks
abbrev pub IsFilled : List ℕ → ℕ → Bool → Type 0
IsFilled f k r = r ≡ filled_to k f
