-- Each position of a footer from 1 to 64 is fixed by its form, beside T17. Assumes nothing.
use Rattle.std.specs.Prelude.{◌≡◌, refl, true, ℕ, ◌-◌, ◌≤◌, eqb, length, get_or}
use Rattle.std.proofs.Math.Bool.{Bool}
use mathlib.Core.List.{List, [], ◌∷◌}
use Rattle.std.proofs.Common.{arith}
use Rattle.theory.specs.Text.{bytes}
use Rattle.theory.specs.laws.Truth.{joined, joined_each}
use Rattle.theory.specs.Same.{eqs}
use Rattle.theory.specs.Each.{Each, none, more}
use Rattle.theory.specs.Every.{all, run}
use Rattle.sizes.specs.Sizes.{footer_length}
use Rattle.texts.specs.Field.{field, line_end}
use Rattle.fields.specs.Field.{zero_digit}
use Rattle.fields.specs.laws.Spans.{Span, span, one_of, cover, admitted, Held, same_held, covered_at}
use Rattle.frames.specs.Frames.{footer_form}

unfoldable pub footer_spans : List Span
footer_spans =
    span 1 1 footer_form (one_of (bytes "2"))
    ∷ span 2 63 footer_form zero_digit
    ∷ span 64 64 footer_form (one_of line_end)
    ∷ []

pub footer_cover : cover 1 footer_length footer_spans ≡ true
unfolding cover footer_spans
footer_cover = refl

module _ (f : List ℕ) (form : footer_form f ≡ true) where
  pub footer_covered : Each (Held f) footer_spans
  unfolding footer_form footer_spans joined one_of run all
  footer_covered = go (joined_each (eqb (length f) footer_length) behind form)
    where
      behind : List Bool
      behind = eqs (field 1 1 f) (bytes "2") ∷ run zero_digit 62 (field 2 63 f) ∷ eqs (field footer_length footer_length f) line_end ∷ []

      go : Each (λ b. b ≡ true) (eqb (length f) footer_length ∷ behind) → Each (Held f) footer_spans
      go (more l (more t (more z (more e none)))) =
          more (same_held (one_of (bytes "2")) 1 (field 1 1 f) (bytes "2") refl t)
          (more z
          (more (same_held (one_of line_end) 1 (field 64 64 f) line_end refl e) none))

  -- the byte at each is one that the table admits there
  pub footer_at : (p : ℕ) → 1 ≤ p → p ≤ footer_length → admitted footer_spans p (get_or f (p - 1) 0) ≡ true
  footer_at p a b = covered_at f footer_spans 1 footer_length p (omega arith) footer_cover footer_covered a b
