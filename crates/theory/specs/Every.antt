-- Every byte of a list passes a test; how many pass it in front. Assumes nothing.
use Rattle.std.specs.Prelude.{Bool, true, cond, ◌&&◌, List, [], ◌∷◌, ℕ, suc, eqb, length}

unfoldable pub all : (ℕ → Bool) → List ℕ → Bool
all p [] = true
all p (x ∷ xs) = p x && all p xs

-- n bytes, each of which passes
unfoldable pub run : (ℕ → Bool) → ℕ → List ℕ → Bool
run p n s = eqb (length s) n && all p s

-- how many bytes pass in front, before the first that does not
unfoldable pub leading : (ℕ → Bool) → List ℕ → ℕ
leading p [] = 0
leading p (x ∷ xs) = cond (p x) (suc (leading p xs)) 0
