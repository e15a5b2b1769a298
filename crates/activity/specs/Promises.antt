-- What the public function of this crate promises. Assumes nothing.
use Rattle.std.specs.Prelude.{◌≡◌, Bool, List, ℕ}
use Rattle.lines.specs.End.{active}

abbrev pub IsActive : List ℕ → List ℕ → Bool → Type 0
IsActive t r a = a ≡ active t r
