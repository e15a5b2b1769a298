-- Two lists of bytes are the same; a list is among others. Assumes nothing.
use Rattle.std.specs.Prelude.{Bool, true, false, ◌&&◌, ◌||◌, List, [], ◌∷◌, ℕ, eqb}

unfoldable pub eqs : List ℕ → List ℕ → Bool
eqs [] [] = true
eqs [] (y ∷ ys) = false
eqs (x ∷ xs) [] = false
eqs (x ∷ xs) (y ∷ ys) = eqb x y && eqs xs ys

-- t is one of them
unfoldable pub mem : List ℕ → List (List ℕ) → Bool
mem t [] = false
mem t (x ∷ xs) = eqs t x || mem t xs
