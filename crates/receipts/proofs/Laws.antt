-- What the functions of this crate cite. Assumes nothing.
use mathlib.Core.Path.{◌≡◌, refl, ◌∙◌}
use mathlib.Core.Bool.{Bool, true, false, ◌&&◌}
use mathlib.Core.List.{List, [], ◌∷◌}
use Prim.Native.Nat.{ℕ, zero, suc}
use Rattle.theory.specs.Text.{bytes}
use Rattle.theory.specs.Same.{eqs}
use Rattle.theory.specs.Walk.{each}
use Rattle.texts.specs.Field.{field}
use Rattle.hgc.specs.Confirmation.{outcome}
use Rattle.answers.specs.Layout.{answers_in}
use Rattle.receipts.specs.Receipt.{outcome_holds}

module _ (h g : List ℕ) where
  -- `00` or `01`
  pub outcome_none : (n : ℕ) → n ≡ answers_in h g → n ≡ 0 → (r : Bool) → r ≡ eqs (field 108 109 g) (bytes "00") → r ≡ outcome_holds h g
  unfolding outcome_holds outcome
  outcome_none n a e r q = q ∙ rw (← a, e)

  pub outcome_some : (n : ℕ) → n ≡ answers_in h g → (n ≡ 0 → ⊥) → (r : Bool) → r ≡ eqs (field 108 109 g) (bytes "01") → r ≡ outcome_holds h g
  unfolding outcome_holds outcome
  outcome_some zero a z r q = absurd (z refl)
  outcome_some (suc n) a z r q = q ∙ rw (← a)

-- two tests at once
pub each_two : (p q : List ℕ → Bool) (xs : List (List ℕ)) → each (λ x. p x && q x) xs ≡ (each p xs && each q xs)
unfolding each
each_two p q [] = refl
each_two p q (x ∷ xs) = rw (each_two p q xs) (go (p x) (q x) (each p xs) (each q xs))
  where
    go : (a b c d : Bool) → (a && b) && (c && d) ≡ (a && c) && (b && d)
    go true true c d = refl
    go true false true d = refl
    go true false false d = refl
    go false b c d = refl
