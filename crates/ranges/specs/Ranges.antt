-- The wild characters of a vector: # a digit, @ a capital, ? any byte. A run of them takes every value in its places, in
-- order. Assumes nothing.
use Rattle.std.specs.Prelude.{Bool, not, cond, ◌||◌, List, [], ◌∷◌, ◌++◌, ℕ, zero, suc, ◌+◌, ◌/◌, ◌%◌, eqb}
use Rattle.theory.specs.Text.{byte}

abbrev pub wild : ℕ → Bool
wild b = (eqb b (byte "#") || eqb b (byte "@")) || eqb b (byte "?")

abbrev pub tame : ℕ → Bool
tame b = not (wild b)

-- how many values a place takes
unfoldable pub base : ℕ → ℕ
base kind = cond (eqb kind (byte "#")) 10 (cond (eqb kind (byte "@")) 26 256)

-- the first of them
unfoldable pub lowest : ℕ → ℕ
lowest kind = cond (eqb kind (byte "#")) (byte "0") (cond (eqb kind (byte "@")) (byte "A") 0)

-- the value v in k places
unfoldable pub valued : ℕ → ℕ → ℕ → List ℕ
valued kind zero v = []
valued kind (suc k) v = valued kind k (v / base kind) ++ (lowest kind + v % base kind) ∷ []
