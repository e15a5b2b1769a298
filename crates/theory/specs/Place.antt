-- The place of the first part that passes a test. Assumes nothing.
use Rattle.std.specs.Prelude.{Bool, true, false, List, [], ◌∷◌, ℕ, suc}

-- here, or one place behind n
unfoldable pub place_on : Bool → ℕ → ℕ
place_on true n = 0
place_on false n = suc n

-- the place of the first that passes, or their number where none does
unfoldable pub place : (List ℕ → Bool) → List (List ℕ) → ℕ
place q [] = 0
place q (x ∷ xs) = place_on (q x) (place q xs)
