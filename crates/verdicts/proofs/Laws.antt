-- What the functions of this crate cite: a rule behind others, as the code asks it, and a line judged beside those in front. Assumes
-- nothing.
use mathlib.Core.Path.{◌≡◌, ◌∙◌}
use mathlib.Core.List.{List}
use Prim.Native.Nat.{ℕ, ◌<◌}
use native.Mathlib.Omega.{arith}
use lib.ListN.{length, take}
use lib.Seq.{length-take-le}
use Rattle.theory.specs.First.{choose, first}
use Rattle.theory.specs.laws.First.{otherwise_stands, otherwise_next}
use Rattle.theory.specs.Parts.{chop, part_at}
use Rattle.theory.specs.laws.Parts.{length_chop}
use Rattle.theory.specs.Pick.{good, pick}
use Rattle.theory.specs.laws.Pick.{pick_take}
use Rattle.theory.specs.Walk.{some}
use Rattle.rules.specs.declared.reason.Reason.{Reason}
use Rattle.rules.specs.Numbers.{reason_number}
use Rattle.rules.specs.laws.Numbers.{reason_some}
use Rattle.columns.specs.Columns.{pan_of}
use Rattle.lines.specs.Rules.{line_fault}
use Rattle.slots.specs.Search.{holds_pan, held_by_another}
use Rattle.verdicts.specs.Verdict.{own_rules, verdict}
use Rattle.verdicts.specs.laws.Verdict.{own_is, verdict_is}

module _ (rows from : List ℕ) (R : List (List ℕ)) (l : List ℕ) where
  -- what L1 to L10 say stands, and where they say nothing L11 decides
  pub own_line : (r : Reason) → line_fault rows from l ≡ reason_number r → first (own_rules rows from R l) ≡ reason_number r
  own_line r e = own_is rows from R l ∙ rw e (otherwise_stands (reason_number r) _ (reason_some r))

  pub own_held : line_fault rows from l ≡ 0 → first (own_rules rows from R l) ≡ choose (held_by_another (pan_of l) from R) 4 0
  own_held e = own_is rows from R l ∙ otherwise_next _ _ e

  -- the same of L1 to L11, and of L12
  pub verdict_own : (ts : List (List ℕ)) (r : Reason) → first (own_rules rows from R l) ≡ reason_number r → verdict rows from R ts l ≡ reason_number r
  verdict_own ts r e = verdict_is rows from R l ts ∙ rw e (otherwise_stands (reason_number r) _ (reason_some r))

  pub verdict_named : (ts : List (List ℕ)) → first (own_rules rows from R l) ≡ 0 → verdict rows from R ts l ≡ choose (some (holds_pan (pan_of l)) ts) 1 0
  verdict_named ts e = verdict_is rows from R l ts ∙ otherwise_next _ _ e

-- f judges a line beside the first i verdicts, as the walk lends them
pub beside : (f : List (List ℕ) → List ℕ → ℕ) (w i : ℕ) (b vs : List ℕ) → i < length vs
    → f (pick good (take i vs) (chop w (length (take i vs)) b)) (part_at w (length (take i vs)) b) ≡ f (pick good vs (chop w i b)) (part_at w i b)
beside f w i b vs h = rw (length-take-le i vs (omega arith), pick_take good i vs (chop w i b) (length_chop w i b))
