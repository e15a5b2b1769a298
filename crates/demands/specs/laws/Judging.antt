-- The verdicts of lines are one scan, and no others are; and a line is taken exactly when it breaks no rule. Assumes nothing.
use Rattle.std.specs.Prelude.{◌≡◌, ℕ}
use Rattle.std.proofs.Common.{sym, ◌∙◌}
use mathlib.Core.List.{List, []}
use Rattle.theory.specs.First.{first, choose}
use Rattle.theory.specs.laws.First.{unchosen, otherwise, otherwise_none}
use Rattle.theory.specs.Walk.{some}
use Rattle.theory.specs.laws.Scan.{length_scan, scan_at, scan_only}
use Rattle.columns.specs.Columns.{pan_of}
use Rattle.lines.specs.laws.Faultless.{faultless_none}
use Rattle.slots.specs.Search.{holds_pan}
use Rattle.header.specs.Header.{sender}
use Rattle.hgv.specs.Layout.{lines_of}
use Rattle.slots.specs.Slots.{records}
use Rattle.verdicts.specs.Verdict.{own_rules, verdict_rules, verdict, verdicts_of, file_verdicts}
use Rattle.imports.specs.Import.{judged}
use Rattle.verdicts.specs.laws.Verdict.{own_is, verdict_is, taken_faultless, taken_free}
use Rattle.demands.specs.Verdicts.{Verdicts, Unbroken}

module _ (rows from : List ℕ) (R : List (List ℕ)) where
  -- ---- what the verdicts are

  pub verdicts_there : (ls : List (List ℕ)) → Verdicts rows from R ls (verdicts_of rows from R ls)
  unfolding verdicts_of verdict
  verdicts_there ls =
      record {
        for_each = length_scan (verdict rows from R) [] ls;
        first_that_fits = λ i k. scan_at (verdict rows from R) ls i k;
      }

  pub verdicts_only : (ls : List (List ℕ)) (vs : List ℕ) → Verdicts rows from R ls vs → vs ≡ verdicts_of rows from R ls
  unfolding verdicts_of verdict
  verdicts_only ls vs v = scan_only (verdict rows from R) ls vs v.for_each v.first_that_fits

  -- ---- one line

  module _ (earlier : List (List ℕ)) (l : List ℕ) where
    -- no rule fits
    pub unbroken : first (verdict_rules rows from R earlier l) ≡ 0 → Unbroken rows from R earlier l
    unfolding verdict
    unbroken h =
        record {
          l1_to_l10 = taken_faultless rows from R earlier l h;
          l11 = taken_free rows from R earlier l h;
          l12 = unchosen (some (holds_pan (pan_of l)) earlier) 0 (otherwise_none (first (own_rules rows from R l)) _ (sym (verdict_is rows from R l earlier) ∙ h)).1;
        }

    -- and only then
    pub none_fits : Unbroken rows from R earlier l → first (verdict_rules rows from R earlier l) ≡ 0
    unfolding verdict otherwise choose
    none_fits u =
        verdict_is rows from R l earlier
        ∙ rw (own_is rows from R l, faultless_none rows from l u.l1_to_l10, u.l11, u.l12)

-- ---- a file

-- the verdicts of its lines, beside the register, are what it was judged to be
pub judged_is : (register rows h vs : List ℕ) → Verdicts rows (sender h) (records register) (lines_of h) vs → judged register rows h ≡ vs
unfolding judged file_verdicts
judged_is register rows h vs v = sym (verdicts_only rows (sender h) (records register) (lines_of h) vs v)
