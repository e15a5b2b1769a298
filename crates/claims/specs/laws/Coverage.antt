-- Each position of a header from 1 to 128 is fixed by a field of its form (26) or by its version (27), beside T17. Assumes nothing.
use Rattle.std.specs.Prelude.{◌≡◌, true, List, ◌∷◌, ◌++◌, ℕ, ◌-◌, ◌≤◌, get_or}
use Rattle.std.proofs.Math.Path.{refl}
use Rattle.std.proofs.Common.{arith}
use Rattle.theory.specs.Text.{bytes}
use Rattle.theory.specs.Each.{Each, more}
use Rattle.theory.specs.laws.Each.{each_append}
use Rattle.theory.specs.Every.{all}
use Rattle.fields.specs.laws.Listed.{listed_run}
use Rattle.fields.specs.laws.Spans.{Span, span, one_of, cover, admitted, Held, Fixes, covered_at}
use Rattle.sequences.specs.laws.Coverage.{sequence_spans}
use Rattle.sizes.specs.Sizes.{header_length}
use Rattle.header.specs.Header.{version, header_holds}
use Rattle.header.specs.laws.Coverage.{front, back, front_fixed, back_fixed, header_covered}
use Rattle.claims.specs.Claims.{version_holds}

unfoldable pub spans : List Span
spans = front ++ span 95 100 version_holds (one_of (bytes "012")) ∷ back

pub spans_cover : cover 1 header_length spans ≡ true
unfolding cover spans front back sequence_spans
spans_cover = refl

module _ (h : List ℕ) where
  version_held : version_holds h ≡ true → Held h (span 95 100 version_holds (one_of (bytes "012")))
  unfolding version_holds all one_of
  version_held = listed_run (one_of (bytes "012")) 6 (bytes "120001220001") (version h) refl

  -- each field, and the version, holds only where its positions are there and hold what it admits
  pub spans_fixed : Each (Fixes h) spans
  unfolding spans
  spans_fixed = each_append (front_fixed h) (more version_held (back_fixed h))

  module _ (form : header_holds h ≡ true) (known : version_holds h ≡ true) where
    -- where form and version hold, all positions do
    pub whole_covered : Each (Held h) spans
    unfolding spans
    whole_covered = each_append (header_covered h form).0 (more (version_held known) (header_covered h form).1)

    -- and the byte at each is one that the table admits there
    pub header_at : (p : ℕ) → 1 ≤ p → p ≤ header_length → admitted spans p (get_or h (p - 1) 0) ≡ true
    header_at p a b = covered_at h spans 1 header_length p (omega arith) spans_cover whole_covered a b
