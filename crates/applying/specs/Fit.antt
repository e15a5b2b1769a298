-- What the taken lines must be so that a register can take them. Assumes nothing.
use Rattle.std.specs.Prelude.{◌≡◌, true, false, List, map, ℕ, ◌≤◌, length}
use Rattle.theory.specs.Each.{Each}
use Rattle.theory.specs.Distinct.{distinct}
use Rattle.sizes.specs.Modes.{is_full}
use Rattle.columns.specs.Columns.{pan_of}
use Rattle.slots.specs.Search.{held_by_another}
use Rattle.holdings.specs.Holdings.{holdings}
use Rattle.holdings.specs.Places.{Told}
use Rattle.upkeep.specs.Makes.{Makes}

-- the lines ls of the sender `who`, of which `make` makes records, for a register of so many slots that holds the records R
pub record Fit (mode : ℕ) (who : List ℕ) (make : List ℕ → List ℕ) (slots : ℕ) (R ls : List (List ℕ)) : Type 0 where
  -- each becomes a used slot with its own PAN and actor
  pub made : Each (Makes make) ls
  -- no two have one PAN
  pub apart : distinct (map pan_of ls) ≡ true
  -- no other actor holds one of their PANs (L11)
  pub free : Each (λ l. held_by_another (pan_of l) who R ≡ false) ls
  -- and there are slots enough
  pub room : length (holdings mode who make R ls) ≤ slots

-- `found` has a place for each of the lines with these verdicts: in mode 1, where its PAN stands among the records R
pub record Sought (mode : ℕ) (R : List (List ℕ)) (width : ℕ) (lines vs found : List ℕ) : Type 0 where
  pub many : length found ≡ length vs
  pub places : is_full mode ≡ false → Told R width lines vs found
