-- The lines of an HGV paired with the copies in its HGC from the last to the first: a line that is the last copy not
-- paired yet is paired with it, and any other line is not paired. Assumes nothing.
use Rattle.std.specs.Prelude.{Bool, true, false, List, [], ◌∷◌, ℕ, zero, suc, length, get_or}
use Rattle.theory.specs.Same.{eqs}
use Rattle.theory.specs.Count.{bump}

-- t is the last of the first k copies
unfoldable pub is_last : List (List ℕ) → ℕ → List ℕ → Bool
is_last copies zero t = false
is_last copies (suc k) t = eqs t (get_or copies k [])

-- one less where the test holds
unfoldable pub lower : Bool → ℕ → ℕ
lower true zero = zero
lower true (suc k) = k
lower false k = k

-- how many copies wait for a line, when those of `all` have been paired
unfoldable pub waiting : List (List ℕ) → List (List ℕ) → ℕ
waiting [] copies = length copies
waiting (t ∷ ts) copies = lower (is_last copies (waiting ts copies) t) (waiting ts copies)

-- for each line 1 where it is paired, 0 where it is not
unfoldable pub paired : List (List ℕ) → List (List ℕ) → List ℕ
paired [] copies = []
paired (t ∷ ts) copies = bump (is_last copies (waiting ts copies) t) 0 ∷ paired ts copies
