-- What each public function of this crate promises. Assumes nothing.
use Rattle.std.specs.Prelude.{◌≡◌, Bool, List, ℕ}
use Rattle.pans.specs.Pan.{pan, luhn}

abbrev pub IsPan : List ℕ → Bool → Type 0
IsPan f r = r ≡ pan f

abbrev pub IsLuhn : List ℕ → Bool → Type 0
IsLuhn f r = r ≡ luhn f
