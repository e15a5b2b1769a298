-- The footer as the code lends it, and as it writes it. Assumes nothing.
use mathlib.Core.Path.{◌≡◌, ◌∙◌}
use mathlib.Core.List.{List}
use Prim.Native.Nat.{ℕ, ◌+◌, ◌-◌, ◌≤◌}
use native.Mathlib.Omega.{arith}
use lib.ListN.{length, take, drop, length-drop}
use lib.Seq.{take_all}
use Rattle.theory.specs.Text.{bytes}
use Rattle.texts.specs.Field.{line_end}
use Rattle.writing.specs.Put.{put_field}
use Rattle.writing.specs.laws.Laid.{laid, laid_next}
use Rattle.numbers.specs.Number.{zeros}
use Rattle.numbers.specs.laws.Number.{length_zeros}
use Rattle.hgv.specs.Layout.{footer}
use Rattle.sizes.specs.Sizes.{footer_length}
use Rattle.frames.specs.Frames.{foot}

module _ (h : List ℕ) where
  pub footer_lent : take (length h - (length h - footer_length)) (drop (length h - footer_length) h) ≡ footer h
  unfolding footer
  footer_lent = take_all (length h - (length h - footer_length)) (drop (length h - footer_length) h) (rw length-drop (omega arith))

-- s₁ to s₃ are the text after each field
pub foot_written : (from : ℕ) (s₀ s₁ s₂ s₃ : List ℕ) → 1 ≤ from → from - 1 + footer_length ≤ length s₀
    → s₁ ≡ put_field (from - 1 + 1) (bytes "2") s₀ → s₂ ≡ put_field (from - 1 + 2) (zeros 62) s₁ → s₃ ≡ put_field (from - 1 + 64) line_end s₂
    → s₃ ≡ put_field from foot s₀
unfolding foot
foot_written from s₀ s₁ s₂ s₃ o n e₁ e₂ e₃ =
    let p : from - 1 + 1 ≡ from = omega arith in
    let v₁ = laid from (from - 1 + 2) (bytes "2") s₀ s₁ (e₁ ∙ rw p) (omega arith) o (omega arith) in
    let v₂ = laid_next from (from - 1 + 2) _ s₀ s₁ v₁ (zeros 62) s₂ (from - 1 + 64) e₂ (omega (arith, length_zeros 62)) (omega arith) in
    let v₃ = laid_next from (from - 1 + 64) _ s₀ s₂ v₂ line_end s₃ (from - 1 + 65) e₃ (omega arith) (omega arith) in
    v₃.is
