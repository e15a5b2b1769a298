-- What the public function of this crate promises. Assumes nothing.
use Rattle.std.specs.Prelude.{◌≡◌, List, ℕ}
use Rattle.theory.specs.Pick.{good}
use Rattle.theory.specs.Tally.{tally}

-- how many lines were taken
abbrev pub CountTaken : List ℕ → ℕ → Type 0
CountTaken vs r = r ≡ tally good vs
