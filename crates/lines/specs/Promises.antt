-- What each public function of this crate promises. Assumes nothing.
use Rattle.std.specs.Prelude.{◌≡◌, Bool, List, ℕ}
use Rattle.lines.specs.Rules.{line_fault, record_holds}

-- the reason of the first rule that the line breaks, or 0
abbrev pub LineFault : List ℕ → List ℕ → List ℕ → ℕ → Type 0
LineFault l sender rows r = r ≡ line_fault rows sender l

abbrev pub IsRecord : List ℕ → Bool → Type 0
IsRecord l r = r ≡ record_holds l
