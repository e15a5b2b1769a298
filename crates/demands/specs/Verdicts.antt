-- The verdicts of lines, said of each line by itself: no word of how they are found. Assumes nothing.
use Rattle.std.specs.Prelude.{◌≡◌, false, List, [], ℕ, ◌<◌, length, take, get_or}
use Rattle.theory.specs.First.{first}
use Rattle.theory.specs.Walk.{some}
use Rattle.theory.specs.Pick.{good, pick}
use Rattle.columns.specs.Columns.{pan_of}
use Rattle.lines.specs.Faultless.{Faultless}
use Rattle.slots.specs.Search.{holds_pan, held_by_another}
use Rattle.verdicts.specs.Verdict.{verdict_rules}

-- of the lines ls, with the verdicts vs, those taken before line i (from 0)
abbrev pub taken_before : List (List ℕ) → List ℕ → ℕ → List (List ℕ)
taken_before ls vs i = pick good (take i vs) (take i ls)

-- vs are the verdicts of the lines ls that `from` sent, with these issuer rows, beside a register that holds the records R: one for
-- each line, and each is the number of the first rule from L1 to L12 that fits, 0 where none does
pub record Verdicts (rows from : List ℕ) (R ls : List (List ℕ)) (vs : List ℕ) : Type 0 where
  pub for_each : length vs ≡ length ls
  pub first_that_fits : (i : ℕ) → i < length ls → get_or vs i 0 ≡ first (verdict_rules rows from R (taken_before ls vs i) (get_or ls i []))

-- the line l breaks none of L1 to L12
pub record Unbroken (rows from : List ℕ) (R earlier : List (List ℕ)) (l : List ℕ) : Type 0 where
  pub l1_to_l10 : Faultless rows from l
  -- the register does not hold its PAN under another actor
  pub l11 : held_by_another (pan_of l) from R ≡ false
  -- no line taken before it has its PAN
  pub l12 : some (holds_pan (pan_of l)) earlier ≡ false
