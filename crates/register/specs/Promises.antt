-- What the public function of this crate promises. Assumes nothing.
use Rattle.std.specs.Prelude.{◌≡◌, Bool, List, ℕ}
use Rattle.register.specs.Register.{in_order}

abbrev pub InOrder : List ℕ → Bool → Type 0
InOrder b r = r ≡ in_order b
