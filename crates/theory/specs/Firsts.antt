-- Which of a list of texts are the first of their kind. Assumes nothing.
use Rattle.std.specs.Prelude.{Bool, true, not, ◌&&◌, List, [], ◌∷◌, ◌++◌, ℕ}
use Rattle.theory.specs.Same.{mem}
use Rattle.theory.specs.Pick.{good}

-- no text that has the verdict 0 stands in front of itself; `before` are the texts in front of all
unfoldable pub firsts_from : List (List ℕ) → List (List ℕ) → List ℕ → Bool
firsts_from before [] vs = true
firsts_from before (t ∷ ts) [] = true
firsts_from before (t ∷ ts) (v ∷ vs) = not (good v && mem t before) && firsts_from (before ++ t ∷ []) ts vs

-- each text that has the verdict 0 is the first of its kind
unfoldable pub firsts : List (List ℕ) → List ℕ → Bool
firsts ts vs = firsts_from [] ts vs
