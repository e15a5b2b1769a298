-- Lines judged one after the other, from the first to the last: each by itself and by those taken before it.
-- Assumes nothing.
use Rattle.std.specs.Prelude.{List, [], ◌∷◌, ◌++◌, ℕ}
use Rattle.theory.specs.Keep.{onto}
use Rattle.theory.specs.Pick.{good}

-- the lines taken so far, after one more was judged
unfoldable pub taken_next : ℕ → List ℕ → List (List ℕ) → List (List ℕ)
taken_next v l taken = taken ++ onto (good v) l []

-- the verdicts of the lines, where f judges a line beside those taken before it, and 0 is taken
unfoldable pub scan : (List (List ℕ) → List ℕ → ℕ) → List (List ℕ) → List (List ℕ) → List ℕ
scan f taken [] = []
scan f taken (l ∷ ls) = f taken l ∷ scan f (taken_next (f taken l) l taken) ls
