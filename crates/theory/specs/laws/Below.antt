-- Laws of a test that every number below another passes, and of a walk over them. Assumes nothing.
use Rattle.std.specs.Prelude.{◌≡◌, Bool, ◌&&◌}
use Rattle.std.proofs.Math.Path.{refl}
use Rattle.std.proofs.Common.{sym, ◌∙◌, true≢false, add-one, arith}
use Rattle.std.proofs.Math.Bool.{true, false}
use Prim.Native.Nat.{ℕ, zero, suc, ◌+◌, ◌≤◌, ◌<◌}
use Rattle.std.proofs.Math.Dec.{eqb}
use borrow.Author.Tests.{eqb-true, eqb-false}
use Rattle.theory.specs.laws.Truth.{and_left, and_right, and_none}
use Rattle.theory.specs.Below.{below}

module _ (p : ℕ → Bool) where
  pub below_each : (n : ℕ) → ((i : ℕ) → i < n → p i ≡ true) → below p n ≡ true
  unfolding below
  below_each zero f = refl
  below_each (suc n) f = rw (below_each n (λ i l. f i (omega arith)), f n (omega arith))

  pub below_at : (n : ℕ) → below p n ≡ true → (i : ℕ) → i < n → p i ≡ true
  unfolding below
  below_at zero h i l = absurd (omega arith)
  below_at (suc n) h i l = go (eqb i n) refl (λ m. below_at n (and_left (below p n) (p n) h) i m)
    where
      go : (r : Bool) → eqb i n ≡ r → (i < n → p i ≡ true) → p i ≡ true
      go true e f = rw (eqb-true i n e) (and_right (below p n) (p n) h)
      go false e f = f (omega (arith, eqb-false i n e))

  -- one that fails
  pub below_fails : (n i : ℕ) → i < n → p i ≡ false → below p n ≡ false
  unfolding below
  below_fails zero i l e = absurd (omega arith)
  below_fails (suc n) i l e = go (eqb i n) refl (λ m. below_fails n i m e)
    where
      go : (r : Bool) → eqb i n ≡ r → (i < n → below p n ≡ false) → below p n && p n ≡ false
      go true q f = and_none (below p n) (p n) (rw (← eqb-true i n q) e)
      go false q f = rw (f (omega (arith, eqb-false i n q)))

  -- ---- a walk: those before the place i pass, and r says whether i does

  pub below_start : below p 0 ≡ true
  unfolding below
  below_start = refl

  module _ (i : ℕ) (v : below p i ≡ true) where
    pub below_on : (r : Bool) → r ≡ p i → r ≡ true → below p (i + 1) ≡ true
    unfolding below
    below_on r e t = rw (add-one i, v, ← e, t)

    pub below_off : (n : ℕ) → i < n → (r : Bool) → r ≡ p i → r ≡ false → false ≡ below p n
    below_off n h r e t = sym (below_fails n i h (sym e ∙ t))

    pub below_end : (n : ℕ) → i ≤ n → n ≤ i → true ≡ below p n
    below_end n h l = let e : n ≡ i = omega arith in rw e (sym v)

  -- ---- another walk decides the same: where it keeps At, up to the end, S holds

  module _ (S : Bool) (At : ℕ → Type 0) (n : ℕ) (start : At 0) (on : (i : ℕ) → i < n → At i → p i ≡ true → At (i + 1))
      (off : (i : ℕ) → i < n → At i → p i ≡ false → S ≡ false) where
    walked : (i : ℕ) → i ≤ n → (below p i ≡ true → At i) × (below p i ≡ false → S ≡ false)
    unfolding below
    walked zero l = (λ e. start, λ e. absurd (true≢false e))
    walked (suc i) l =
        let (f, g) = walked i (omega arith) in (
          λ e. rw (add-one i) at (on i l (f (and_left (below p i) (p i) e)) (and_right (below p i) (p i) e)),
          λ e. go (below p i) refl e f g,
        )
      where
        go : (r : Bool) → below p i ≡ r → r && p i ≡ false → (r ≡ true → At i) → (r ≡ false → S ≡ false) → S ≡ false
        go true q e f g = off i l (f refl) e
        go false q e f g = g refl

    pub below_walk : (At n → S ≡ true) → below p n ≡ S
    below_walk end = go (below p n) refl
      where
        go : (r : Bool) → below p n ≡ r → r ≡ S
        go true e = sym (end ((walked n (omega arith)).0 e))
        go false e = sym ((walked n (omega arith)).1 e)
