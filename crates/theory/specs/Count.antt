-- How often a list stands among others. Assumes nothing.
use Rattle.std.specs.Prelude.{Bool, true, false, List, [], ◌∷◌, ℕ, suc}
use Rattle.theory.specs.Same.{eqs}

-- one more where the test holds
unfoldable pub bump : Bool → ℕ → ℕ
bump true n = suc n
bump false n = n

-- how often t stands in the list
unfoldable pub count : List ℕ → List (List ℕ) → ℕ
count t [] = 0
count t (x ∷ xs) = bump (eqs t x) (count t xs)
