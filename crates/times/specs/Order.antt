-- Which of two times is earlier. Assumes nothing.
use Rattle.std.specs.Prelude.{Bool, true, false, ◌&&◌, ◌||◌, List, [], ◌∷◌, ℕ, eqb, ltb}

-- by their bytes: the first that differ decide, and a text comes before those that it begins
unfoldable pub earlier : List ℕ → List ℕ → Bool
earlier a [] = false
earlier [] (y ∷ b) = true
earlier (x ∷ a) (y ∷ b) = ltb x y || eqb x y && earlier a b
