-- A line's verdict, and the verdicts of a file: one scan from the first line to the last. 0 is taken, any other number
-- is the reason. Assumes nothing.
use Rattle.std.specs.Prelude.{ℕ, List, [], ◌∷◌, ◌++◌}
use Rattle.theory.specs.First.{Rule, ◌if◌, first}
use Rattle.theory.specs.Walk.{some}
use Rattle.theory.specs.Pick.{good, pick}
use Rattle.theory.specs.Scan.{scan}
use Rattle.columns.specs.Columns.{pan_of}
use Rattle.lines.specs.Rules.{line_rules}
use Rattle.slots.specs.Search.{holds_pan, held_by_another}
use Rattle.hgv.specs.Layout.{lines_of}
use Rattle.header.specs.Header.{sender}

-- L1 to L11, which ask nothing of the file's other lines; R are the records that the register holds
unfoldable pub own_rules : List ℕ → List ℕ → List (List ℕ) → List ℕ → List Rule
own_rules rows from R l = line_rules rows from l ++ (4 if held_by_another (pan_of l) from R) ∷ []

-- L12: an earlier taken line of this file has this PAN
unfoldable pub verdict_rules : List ℕ → List ℕ → List (List ℕ) → List (List ℕ) → List ℕ → List Rule
verdict_rules rows from R taken l = own_rules rows from R l ++ (1 if some (holds_pan (pan_of l)) taken) ∷ []

-- the reason of the first that fits
unfoldable pub verdict : List ℕ → List ℕ → List (List ℕ) → List (List ℕ) → List ℕ → ℕ
verdict rows from R taken l = first (verdict_rules rows from R taken l)

-- the verdicts of lines that this sender sent, in file order
unfoldable pub verdicts_of : List ℕ → List ℕ → List (List ℕ) → List (List ℕ) → List ℕ
verdicts_of rows from R ls = scan (verdict rows from R) [] ls

-- those of the file h
unfoldable pub file_verdicts : List ℕ → List (List ℕ) → List ℕ → List ℕ
file_verdicts rows R h = verdicts_of rows (sender h) R (lines_of h)

-- the lines that were taken, in file order
unfoldable pub taken : List ℕ → List ℕ → List (List ℕ)
taken vs h = pick good vs (lines_of h)
