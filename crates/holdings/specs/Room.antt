-- How many slots are used when lines have been applied, as it is reckoned before any is: what stop 33 looks at.
-- Assumes nothing.
use Rattle.std.specs.Prelude.{cond, Bool, not, List, ℕ, ◌+◌, ltb, length}
use Rattle.theory.specs.Keep.{sift}
use Rattle.theory.specs.Pick.{good, pick}
use Rattle.theory.specs.Tally.{tally}
use Rattle.theory.specs.Walk.{some}
use Rattle.columns.specs.Columns.{pan_of}
use Rattle.slots.specs.Search.{holds_pan}
use Rattle.holdings.specs.Holdings.{others}
use Rattle.sizes.specs.Modes.{is_full}

-- is the PAN of x new to R
abbrev pub is_new : List (List ℕ) → List ℕ → Bool
is_new R x = not (some (holds_pan (pan_of x)) R)

-- full: the others' and the lines; incremental: those held and the lines that are new
unfoldable pub used_after : ℕ → List ℕ → List (List ℕ) → List (List ℕ) → ℕ
used_after mode who R ls = cond (is_full mode) (length (others who R) + length ls) (length R + length (sift (is_new R) ls))

-- is a place behind so many slots
abbrev pub is_behind : ℕ → ℕ → Bool
is_behind slots place = not (ltb place slots)

-- the same by the verdicts of the lines and the places told: a line is new where its place is behind the records
unfoldable pub used_by : ℕ → List ℕ → List (List ℕ) → List ℕ → List ℕ → ℕ
used_by mode who R vs found = cond (is_full mode) (length (others who R) + tally good vs) (length R + length (sift (is_behind (length R)) (pick good vs found)))
