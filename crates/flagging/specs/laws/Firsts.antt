-- The first line that has a PAN stands for all that have it. Assumes nothing.
use Rattle.std.specs.Prelude.{◌≡◌, ℕ, ◌≤◌, ◌<◌, get_or}
use Rattle.std.proofs.Common.{sym, ◌∙◌, arith}
use Rattle.std.proofs.Math.Path.{ap}
use mathlib.Core.List.{List, []}
use Rattle.theory.specs.laws.Same.{eqs_true, eqs_refl}
use Rattle.theory.specs.Parts.{chop, part_at}
use Rattle.theory.specs.laws.Parts.{length_chop}
use Rattle.theory.specs.laws.Join.{get_d_chop}
use Rattle.theory.specs.laws.Place.{place_hit, place_before}
use Rattle.columns.specs.Columns.{pan_of}
use Rattle.slots.specs.Search.{holds_pan, place_of}

-- the PAN of the line at the place i
unfoldable pub pan_at : ℕ → List ℕ → ℕ → List ℕ
pan_at width lines i = pan_of (part_at width i lines)

-- of the line at the place i, the first of n lines that has its PAN
unfoldable pub first_at : ℕ → List ℕ → ℕ → ℕ → ℕ
first_at width lines n i = place_of (pan_at width lines i) (chop width n lines)

-- where one passes, the first that does is not behind it
module _ (width : ℕ) (lines : List ℕ) (n : ℕ) where
  abbrev ls : List (List ℕ)
  ls = chop width n lines

  -- it is not behind the line
  pub first_within : (i : ℕ) → i < n → first_at width lines n i ≤ i
  unfolding first_at place_of holds_pan pan_at
  first_within i h =
      place_before (holds_pan (pan_at width lines i)) ls i (rw (length_chop width n lines) h) (rw (get_d_chop width n lines i h) (eqs_refl (pan_at width lines i)))

  -- and has the PAN itself
  first_has : (i : ℕ) → i < n → pan_of (get_or ls (first_at width lines n i) []) ≡ pan_at width lines i
  unfolding first_at place_of holds_pan
  first_has i h =
      eqs_true _ _ (place_hit (holds_pan (pan_at width lines i)) ls (omega (arith, first_within i h, length_chop width n lines)))

  -- so lines have one PAN exactly where one line is the first of both
  pub same_first : (i j : ℕ) → pan_at width lines i ≡ pan_at width lines j → first_at width lines n i ≡ first_at width lines n j
  unfolding first_at
  same_first i j e = ap (λ (t : List ℕ). place_of t ls) e

  pub first_same : (i j : ℕ) → i < n → j < n → first_at width lines n i ≡ first_at width lines n j → pan_at width lines i ≡ pan_at width lines j
  first_same i j h k e = sym (first_has i h) ∙ ap (λ (a : ℕ). pan_of (get_or ls a [])) e ∙ first_has j k
