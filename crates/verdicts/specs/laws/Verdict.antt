-- What a verdict says of its line, and the verdicts of a file of its lines: T7 and T8. Assumes nothing.
use Rattle.std.specs.Prelude.{◌≡◌, true, false, ℕ, ◌+◌, length}
use Rattle.std.proofs.Math.Path.{refl, sym}
use Rattle.std.proofs.Common.{◌∙◌}
use mathlib.Core.List.{List, [], ◌∷◌, map}
use Rattle.theory.specs.First.{◌if◌, first, choose}
use Rattle.theory.specs.laws.First.{first_append, numbered, otherwise, otherwise_none, unchosen}
use Rattle.theory.specs.Same.{mem}
use Rattle.theory.specs.Each.{Each}
use Rattle.theory.specs.Walk.{some}
use Rattle.theory.specs.Distinct.{distinct}
use Rattle.theory.specs.Pick.{good, bad, pick}
use Rattle.theory.specs.Tally.{tally}
use Rattle.theory.specs.laws.Tally.{tallies}
use Rattle.theory.specs.laws.Scan.{length_scan, each_scan, distinct_scan, some_key}
use Rattle.columns.specs.Columns.{pan_of}
use Rattle.lines.specs.Rules.{rules_by, line_rules, line_fault}
use Rattle.lines.specs.Faultless.{Faultless}
use Rattle.lines.specs.laws.Faultless.{faultless}
use Rattle.slots.specs.Search.{holds_pan, held_by_another}
use Rattle.hgv.specs.Layout.{lines_in, lines_of}
use Rattle.hgv.specs.laws.Layout.{length_lines}
use Rattle.header.specs.Header.{sender}
use Rattle.verdicts.specs.Verdict.{own_rules, verdict_rules, verdict, verdicts_of, file_verdicts, taken}

-- the lines that were rejected, in file order
unfoldable pub rejected : List ℕ → List ℕ → List (List ℕ)
rejected vs h = pick bad vs (lines_of h)

module _ (rows from : List ℕ) (R : List (List ℕ)) where
  module _ (l : List ℕ) where
    own_numbered : numbered (own_rules rows from R l) ≡ true
    unfolding own_rules line_rules rules_by numbered
    own_numbered = refl

    -- L11 behind L1 to L10
    pub own_is : first (own_rules rows from R l) ≡ otherwise (line_fault rows from l) (choose (held_by_another (pan_of l) from R) 4 0)
    unfolding own_rules line_fault first line_rules rules_by numbered
    own_is = first_append (line_rules rows from l) ((4 if held_by_another (pan_of l) from R) ∷ []) refl

    -- L12 behind them
    pub verdict_is : (ts : List (List ℕ)) → verdict rows from R ts l ≡ otherwise (first (own_rules rows from R l)) (choose (some (holds_pan (pan_of l)) ts) 1 0)
    unfolding verdict verdict_rules first
    verdict_is ts = first_append (own_rules rows from R l) ((1 if some (holds_pan (pan_of l)) ts) ∷ []) own_numbered

  -- a taken line breaks none of L1 to L10, no other actor holds its PAN, and no line taken before it has that
  module _ (ts : List (List ℕ)) (l : List ℕ) (v : verdict rows from R ts l ≡ 0) where
    own : first (own_rules rows from R l) ≡ 0
    own = (otherwise_none (first (own_rules rows from R l)) _ (sym (verdict_is l ts) ∙ v)).0

    pub taken_faultless : Faultless rows from l
    taken_faultless = faultless rows from l (otherwise_none (line_fault rows from l) _ (sym (own_is l) ∙ own)).0

    pub taken_free : held_by_another (pan_of l) from R ≡ false
    taken_free = unchosen _ 3 (otherwise_none (line_fault rows from l) _ (sym (own_is l) ∙ own)).1

    pub taken_first : mem (pan_of l) (map pan_of ts) ≡ false
    unfolding holds_pan
    taken_first = sym (some_key pan_of (pan_of l) ts) ∙ unchosen _ 0 (otherwise_none (first (own_rules rows from R l)) _ (sym (verdict_is l ts) ∙ v)).1

module _ (rows : List ℕ) (R : List (List ℕ)) (h : List ℕ) where
  abbrev judge : List (List ℕ) → List ℕ → ℕ
  judge = verdict rows (sender h) R

  -- a verdict for each line
  pub length_verdicts : length (file_verdicts rows R h) ≡ lines_in h
  unfolding file_verdicts verdicts_of
  length_verdicts = length_scan judge [] (lines_of h) ∙ length_lines h

  -- T7: each line is taken or rejected
  pub taken_rejected : tally good (file_verdicts rows R h) + tally bad (file_verdicts rows R h) ≡ lines_in h
  taken_rejected = tallies (file_verdicts rows R h) ∙ length_verdicts

  pub each_faultless : Each (Faultless rows (sender h)) (taken (file_verdicts rows R h) h)
  unfolding taken file_verdicts verdicts_of
  each_faultless = each_scan judge (λ ts l v. taken_faultless rows (sender h) R ts l v) [] (lines_of h)

  pub each_free : Each (λ l. held_by_another (pan_of l) (sender h) R ≡ false) (taken (file_verdicts rows R h) h)
  unfolding taken file_verdicts verdicts_of
  each_free = each_scan judge (λ ts l v. taken_free rows (sender h) R ts l v) [] (lines_of h)

  -- no two taken lines have one PAN
  pub taken_apart : distinct (map pan_of (taken (file_verdicts rows R h) h)) ≡ true
  unfolding taken file_verdicts verdicts_of distinct
  taken_apart = distinct_scan judge pan_of (λ ts l v. taken_first rows (sender h) R ts l v) [] (lines_of h) refl
