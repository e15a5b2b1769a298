-- Where a field stands: positions count from 1. Assumes nothing.
use Rattle.std.specs.Prelude.{ℕ, ◌+◌, ◌-◌, ◌/◌, Bool, List, [], ◌∷◌, length, take, drop}
use Rattle.theory.specs.Same.{mem}
use Rattle.theory.specs.Parts.{chop}

-- positions `from` to `to`; what lies behind the end of a text that is too short is missing
unfoldable pub field : ℕ → ℕ → List ℕ → List ℕ
field from to text = take (to + 1 - from) (drop (from - 1) text)

-- LF
abbrev pub line_end : List ℕ
line_end = 10 ∷ []

-- one of the entries of a table, which stand one behind the other, each `width` bytes long
unfoldable pub listed : ℕ → List ℕ → List ℕ → Bool
listed width table f = mem f (chop width (length table / width) table)
