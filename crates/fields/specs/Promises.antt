-- What each public function of this crate promises. Assumes nothing.
use Rattle.std.specs.Prelude.{◌≡◌, Bool, List, ℕ}
use Rattle.theory.specs.Every.{run}
use Rattle.fields.specs.Field.{digit, zero_digit, zero_byte, blank, capital}

abbrev pub IsDigits : List ℕ → ℕ → Bool → Type 0
IsDigits f n r = r ≡ run digit n f

abbrev pub IsZeros : List ℕ → ℕ → Bool → Type 0
IsZeros f n r = r ≡ run zero_digit n f

abbrev pub IsZeroBytes : List ℕ → ℕ → Bool → Type 0
IsZeroBytes f n r = r ≡ run zero_byte n f

abbrev pub IsBlanks : List ℕ → ℕ → Bool → Type 0
IsBlanks f n r = r ≡ run blank n f

abbrev pub IsCapitals : List ℕ → ℕ → Bool → Type 0
IsCapitals f n r = r ≡ run capital n f
