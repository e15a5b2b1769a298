-- Reading an HGC back: its stops, its answer, and the verdict block after it, for texts of every length. h is the HGV, g the
-- HGC. Assumes nothing.
use Rattle.std.specs.Prelude.{ℕ, not, List, [], ◌∷◌, ◌++◌, map, ltb, length, drop}
use Rattle.theory.specs.First.{Rule, ◌if◌, first}
use Rattle.theory.specs.Stopped.{unless_stopped}
use Rattle.hgv.specs.Layout.{width_of, lines_in, length_holds}
use Rattle.frames.specs.Frames.{footer_holds, frames_hold}
use Rattle.header.specs.Header.{header_holds}
use Rattle.claims.specs.Claims.{version_holds, receiver_holds, count_holds}
use Rattle.numbers.specs.Number.{number}
use Rattle.pairing.specs.Pairing.{told}
use Rattle.answers.specs.Layout.{answers_of, reason_of}
use Rattle.receipts.specs.Receipt.{marks_of, receipt_holds}
use Rattle.provider.specs.Counted.{Counted}
use Rattle.provider.specs.Answer.{stop_counts, success_counts}

-- the reasons as numbers
unfoldable pub reasons_of : List ℕ → List ℕ → List ℕ
reasons_of h g = map (λ a. number (reason_of (width_of h) a)) (answers_of h g)

-- for each HGV line, in file order, 0 if taken, else the reason
unfoldable pub read_verdicts : List ℕ → List ℕ → List ℕ
read_verdicts h g = told (marks_of h g) (reasons_of h g)

-- 25 to 27, 29 (receiver only), 30 to 32
unfoldable pub hgv_stops : List ℕ → List Rule
hgv_stops h =
    (25 if not (length_holds h))
    ∷ (26 if not (header_holds h))
    ∷ (27 if not (version_holds h))
    ∷ (29 if not (receiver_holds h))
    ∷ (30 if not (count_holds h))
    ∷ (31 if not (footer_holds h))
    ∷ (32 if not (frames_hold h))
    ∷ []

-- 52, and 53: verdict block under n bytes
unfoldable pub block_stops : List ℕ → List ℕ → List ℕ → List Rule
block_stops h g block = (52 if not (receipt_holds h g)) ∷ (53 if ltb (length block) (lines_in h)) ∷ []

-- the number answered: the first that holds, 0 for success
unfoldable pub read_number : List ℕ → List ℕ → List ℕ → ℕ
read_number h g block = first (hgv_stops h ++ block_stops h g block)

unfoldable pub read_answer : List ℕ → List ℕ → List ℕ → Counted
read_answer h g block = let n : ℕ = read_number h g block in unless_stopped n (success_counts h g) (stop_counts n)

-- a byte for each HGV line, in file order; bytes behind the n-th stay
unfoldable pub verdicts_written : List ℕ → List ℕ → List ℕ → List ℕ
verdicts_written h g block = read_verdicts h g ++ drop (lines_in h) block

unfoldable pub verdicts_after : List ℕ → List ℕ → List ℕ → List ℕ
verdicts_after h g block = unless_stopped (read_number h g block) (verdicts_written h g block) block
