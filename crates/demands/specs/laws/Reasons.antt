-- Every reason that a line is given is one of those that an HGC may name, whatever its limits of weight. Assumes nothing.
use Rattle.std.specs.Prelude.{◌≡◌, Bool, true, List, [], ◌∷◌, ◌++◌, ℕ, ◌≤◌}
use Rattle.std.proofs.Math.Path.{refl}
use Rattle.theory.specs.Text.{bytes}
use Rattle.theory.specs.Same.{eqs, mem}
use Rattle.theory.specs.Parts.{chop}
use Rattle.theory.specs.First.{Rule, ◌if◌, first}
use Rattle.theory.specs.Walk.{some}
use Rattle.theory.specs.laws.First.{numbered_by, numbered_to, first_passes, first_most}
use Rattle.theory.specs.Pick.{bad}
use Rattle.texts.specs.Field.{listed}
use Rattle.numbers.specs.Number.{decimal}
use Rattle.columns.specs.Columns.{pan_of}
use Rattle.lines.specs.Rules.{rules_by}
use Rattle.slots.specs.Search.{holds_pan, held_by_another}
use Rattle.hgc.specs.Confirmation.{answer}
use Rattle.hgc.specs.laws.Confirmation.{Holding}
use Rattle.hgc.specs.laws.Fields.{answer_reason}
use Rattle.receipts.specs.Receipt.{reason_holds}
use Rattle.demands.specs.Weighed.{L10Under, rules_under, verdict_under}

-- a reason that an HGC may name, in its two digits
unfoldable pub named : ℕ → Bool
named v = listed 2 (bytes "010203040506080912") (decimal 2 v)

-- the verdict of a line, with any test in the place of L10
unfoldable pub verdict_with : (List ℕ → Bool) → List ℕ → List ℕ → List (List ℕ) → List (List ℕ) → List ℕ → ℕ
verdict_with h rows from R earlier l =
    first (rules_by (h l) rows from l ++ (4 if held_by_another (pan_of l) from R) ∷ (1 if some (holds_pan (pan_of l)) earlier) ∷ [])

module _ (h : List ℕ → Bool) (rows from : List ℕ) (R earlier : List (List ℕ)) (l : List ℕ) where
  abbrev rules : List Rule
  rules = rules_by (h l) rows from l ++ (4 if held_by_another (pan_of l) from R) ∷ (1 if some (holds_pan (pan_of l)) earlier) ∷ []

  -- the numbers of the rules of a line, one by one
  rules_named : numbered_by named rules ≡ true
  unfolding numbered_by rules_by named listed decimal chop mem eqs
  rules_named = refl

  pub with_named : bad (verdict_with h rows from R earlier l) ≡ true → named (verdict_with h rows from R earlier l) ≡ true
  unfolding verdict_with
  with_named = first_passes named rules rules_named

  -- none is above 12
  pub with_most : verdict_with h rows from R earlier l ≤ 12
  unfolding verdict_with rules_by numbered_to
  with_most = first_most 12 rules refl

-- so under any limits of weight
module _ (limit : List ℕ → Bool) (rows from : List ℕ) (R earlier : List (List ℕ)) (l : List ℕ) where
  pub verdict_named : bad (verdict_under limit rows from R earlier l) ≡ true → named (verdict_under limit rows from R earlier l) ≡ true
  unfolding verdict_under rules_under verdict_with
  verdict_named = with_named (L10Under limit) rows from R earlier l

  pub verdict_most : verdict_under limit rows from R earlier l ≤ 12
  unfolding verdict_under rules_under verdict_with
  verdict_most = with_most (L10Under limit) rows from R earlier l

-- as an answer's reason
pub reason_holds_lem : (w v : ℕ) (l : List ℕ) → named v ≡ true → Holding w l → reason_holds w (answer w v l) ≡ true
unfolding reason_holds named
reason_holds_lem w v l e h = rw (answer_reason w v l h) e
