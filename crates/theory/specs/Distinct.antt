-- No two of a list are the same. Assumes nothing.
use Rattle.std.specs.Prelude.{Bool, true, not, ◌&&◌, List, [], ◌∷◌, ℕ}
use Rattle.theory.specs.Same.{mem}

-- none stands among those behind it
unfoldable pub distinct : List (List ℕ) → Bool
distinct [] = true
distinct (x ∷ xs) = not (mem x xs) && distinct xs
