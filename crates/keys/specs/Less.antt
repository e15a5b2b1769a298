-- Which of two texts comes first by its bytes. Assumes nothing.
use Rattle.std.specs.Prelude.{Bool, false, ◌&&◌, ◌||◌, List, [], ◌∷◌, ℕ, eqb, ltb}

-- the first byte that differs is lower
unfoldable pub less : List ℕ → List ℕ → Bool
less [] t = false
less (x ∷ s) [] = false
less (x ∷ s) (y ∷ t) = ltb x y || (eqb x y && less s t)
