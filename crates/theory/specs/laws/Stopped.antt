-- Laws of a call that may be stopped, and of stops in two lists of which the first comes first. Assumes nothing.
use Rattle.std.specs.Prelude.{◌≡◌, refl, true, List, ◌++◌, ℕ, zero, suc}
use Rattle.std.proofs.Common.{sym, ap, ◌∙◌, arith, eq-eqb, ne_eqb}
use Rattle.theory.specs.First.{Rule, first}
use Rattle.theory.specs.laws.First.{numbered, otherwise_stands, otherwise_next, otherwise_none, first_append}
use Rattle.theory.specs.Stopped.{unless_stopped}

module _ {A : Type 0} (number : ℕ) (done stays : A) where
  pub at_stop : (number ≡ 0 → ⊥) → unless_stopped number done stays ≡ stays
  unfolding unless_stopped
  at_stop k = rw (ne_eqb number 0 k)

  pub at_success : number ≡ 0 → unless_stopped number done stays ≡ done
  unfolding unless_stopped
  at_success e = rw (eq-eqb number 0 e)

-- the number of an answer, where success has 0 and a refusal its own
pub number_kept : {A : Type 0} (number_of : A → ℕ) (n : ℕ) (done stays : A) → number_of done ≡ 0 → number_of stays ≡ n → number_of (unless_stopped n done stays) ≡ n
number_kept number_of zero done stays e f = ap number_of (at_success 0 done stays refl) ∙ e
number_kept number_of (suc n) done stays e f = ap number_of (at_stop (suc n) done stays (λ z. omega arith)) ∙ f

-- the stops rs behind the stops fs
module _ (fs rs : List Rule) (n : numbered fs ≡ true) where
  pub by_first : (k : ℕ) → k ≡ first fs → (k ≡ 0 → ⊥) → k ≡ first (fs ++ rs)
  by_first k e z = sym (first_append fs rs n ∙ rw (← e) (otherwise_stands k _ z))

  pub by_second : first fs ≡ 0 → (k : ℕ) → k ≡ first rs → k ≡ first (fs ++ rs)
  by_second z k e = sym (first_append fs rs n ∙ rw (← e) (otherwise_next _ k z))

  -- 0 only where neither list has one that holds
  pub by_neither : first (fs ++ rs) ≡ 0 → (first fs ≡ 0) × (first rs ≡ 0)
  by_neither z = otherwise_none (first fs) (first rs) (sym (first_append fs rs n) ∙ z)
