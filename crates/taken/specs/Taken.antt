-- The lines that were taken, told by a byte for each line of a file: 0 is taken. Assumes nothing.
use Rattle.std.specs.Prelude.{ℕ, List, length}
use Rattle.theory.specs.Parts.{chop}
use Rattle.theory.specs.Pick.{good, pick}

-- those among lines of this width
abbrev pub taken_in : ℕ → List ℕ → List ℕ → List (List ℕ)
taken_in width vs lines = pick good vs (chop width (length vs) lines)
