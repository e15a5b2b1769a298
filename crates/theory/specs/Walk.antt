-- A test over the parts of a block: each passes, or some does. Assumes nothing.
use Rattle.std.specs.Prelude.{Bool, true, false, ◌&&◌, ◌||◌, List, [], ◌∷◌, ℕ}

unfoldable pub each : (List ℕ → Bool) → List (List ℕ) → Bool
each q [] = true
each q (x ∷ xs) = q x && each q xs

unfoldable pub some : (List ℕ → Bool) → List (List ℕ) → Bool
some q [] = false
some q (x ∷ xs) = q x || some q xs
