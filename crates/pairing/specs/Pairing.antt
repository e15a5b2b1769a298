-- Which lines of an HGV were taken, read off its HGC. Texts are the lines' positions 2-127; `all` are those of the HGV's
-- lines and `copies` those of the HGC's, both in file order. Assumes nothing.
use Rattle.std.specs.Prelude.{ℕ, zero, suc, Bool, not, ◌&&◌, List, [], ◌∷◌, ◌++◌, ltb}
use Rattle.theory.specs.Same.{mem}
use Rattle.theory.specs.Count.{bump, count}
use Rattle.theory.specs.Pick.{bad, pick}

-- the first copy of a text that stands more often in the HGV than in the HGC; `before` are the texts in front of it
unfoldable pub is_taken : List (List ℕ) → List (List ℕ) → List (List ℕ) → List ℕ → Bool
is_taken all copies before t = not (mem t before) && ltb (count t copies) (count t all)

-- the marks of the lines behind those
unfoldable pub marks_from : List (List ℕ) → List (List ℕ) → List (List ℕ) → List (List ℕ) → List ℕ
marks_from all copies before [] = []
marks_from all copies before (t ∷ ts) = bump (not (is_taken all copies before t)) 0 ∷ marks_from all copies (before ++ t ∷ []) ts

-- for each line of the HGV 0 where it was taken, 1 where it is left
unfoldable pub marks : List (List ℕ) → List (List ℕ) → List ℕ
marks all copies = marks_from all copies [] all

-- the lines left, in order
unfoldable pub left : List (List ℕ) → List (List ℕ) → List (List ℕ)
left all copies = pick bad (marks all copies) all

-- a verdict for each line: 0, or where it is left the next of the reasons
unfoldable pub told : List ℕ → List ℕ → List ℕ
told [] rs = []
told (zero ∷ ms) rs = 0 ∷ told ms rs
told (suc m ∷ ms) [] = 0 ∷ told ms []
told (suc m ∷ ms) (r ∷ rs) = r ∷ told ms rs
