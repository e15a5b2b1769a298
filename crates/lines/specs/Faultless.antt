-- A line without fault: none of L1 to L10 is broken. Assumes nothing.
use Rattle.std.specs.Prelude.{◌≡◌, true, List, ℕ}
use Rattle.lines.specs.Rules.{L1, L2, L3, L4, L5, L6, L7, L8, L9, L10}

pub record Faultless (rows sender l : List ℕ) : Type 0 where
  pub l1 : L1 l ≡ true
  pub l2 : L2 sender l ≡ true
  pub l3 : L3 rows sender l ≡ true
  pub l4 : L4 rows sender l ≡ true
  pub l5 : L5 l ≡ true
  pub l6 : L6 l ≡ true
  pub l7 : L7 l ≡ true
  pub l8 : L8 l ≡ true
  pub l9 : L9 l ≡ true
  pub l10 : L10 l ≡ true
