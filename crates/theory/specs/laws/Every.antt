-- Laws of a test that every byte of a list passes, and of how many pass it in front. Assumes nothing.
use Rattle.std.specs.Prelude.{◌≡◌, Bool, ◌&&◌, eqb, take, drop, get_or}
use Rattle.std.proofs.Math.Path.{refl}
use Rattle.std.proofs.Common.{sym, ◌∙◌, add-one, length-append, drop_of_length-le}
use Rattle.std.proofs.Math.Bool.{true, false, cond}
use mathlib.Core.List.{List, [], ◌∷◌, ◌++◌}
use Prim.Native.Nat.{ℕ, zero, suc, ◌+◌, ◌≤◌, ◌<◌}
use native.Mathlib.Omega.{arith}
use Rattle.std.proofs.Math.ListN.{length}
use Rattle.std.proofs.Math.Seq.{drop-cons}
use borrow.Author.Tests.{eqb-true, eq-eqb}
use Rattle.theory.specs.laws.Truth.{and_left, and_right, and_assoc}
use Rattle.theory.specs.Every.{all, run, leading}

module _ (p : ℕ → Bool) where
  -- from the place i on, as a loop has it
  unfoldable pub all_from : List ℕ → ℕ → Bool
  all_from s i = all p (drop i s)

  pub all_start : (s : List ℕ) → all p s ≡ all_from s 0
  unfolding all_from
  all_start s = refl

  all_step : (s : List ℕ) (i : ℕ) → i < length s → all_from s i ≡ p (get_or s i 0) && all_from s (i + 1)
  unfolding all all_from
  all_step s i h = rw (add-one, drop-cons s i 0)

  pub all_on : (s : List ℕ) (i : ℕ) → i < length s → (b : Bool) → b ≡ p (get_or s i 0) → b ≡ true → all_from s i ≡ all_from s (i + 1)
  all_on s i h b e t = all_step s i h ∙ rw (← e, t)

  pub all_off : (s : List ℕ) (i : ℕ) → i < length s → (b : Bool) → b ≡ p (get_or s i 0) → b ≡ false → all_from s i ≡ false
  all_off s i h b e t = all_step s i h ∙ rw (← e, t)

  pub all_end : (s : List ℕ) (i : ℕ) → length s ≤ i → all_from s i ≡ true
  unfolding all all_from
  all_end s i h = rw (drop_of_length-le s)

  pub all_append : (s t : List ℕ) → all p (s ++ t) ≡ all p s && all p t
  unfolding all
  all_append [] t = refl
  all_append (x ∷ s) t = rw (all_append s t) (sym (and_assoc (p x) (all p s) (all p t)))

  pub all_at : (s : List ℕ) (i : ℕ) → all p s ≡ true → i < length s → p (get_or s i 0) ≡ true
  unfolding all
  all_at [] i h l = absurd (omega arith)
  all_at (x ∷ s) zero h l = and_left (p x) (all p s) h
  all_at (x ∷ s) (suc i) h l = all_at s i (and_right (p x) (all p s) h) (omega arith)

  -- both halves of a run, and back
  pub run_length : (n : ℕ) (s : List ℕ) → run p n s ≡ true → length s ≡ n
  unfolding run
  run_length n s h = eqb-true (length s) n (and_left (eqb (length s) n) (all p s) h)

  pub run_all : (n : ℕ) (s : List ℕ) → run p n s ≡ true → all p s ≡ true
  unfolding run
  run_all n s h = and_right (eqb (length s) n) (all p s) h

  pub all_run : (n : ℕ) (s : List ℕ) → length s ≡ n → all p s ≡ true → run p n s ≡ true
  unfolding run
  all_run n s l h = rw (eq-eqb (length s) n l) h

  pub all_take : (k : ℕ) (s : List ℕ) → all p s ≡ true → all p (take k s) ≡ true
  unfolding all
  all_take zero s h = refl
  all_take (suc k) [] h = refl
  all_take (suc k) (x ∷ s) h = rw (and_left (p x) (all p s) h) (all_take k s (and_right (p x) (all p s) h))

  pub all_drop : (k : ℕ) (s : List ℕ) → all p s ≡ true → all p (drop k s) ≡ true
  unfolding all
  all_drop zero s h = h
  all_drop (suc k) [] h = refl
  all_drop (suc k) (x ∷ s) h = all_drop k s (and_right (p x) (all p s) h)

  -- what passes a narrower test passes a wider one
  pub all_wider : (q : ℕ → Bool) → ((b : ℕ) → p b ≡ true → q b ≡ true) → (s : List ℕ) → all p s ≡ true → all q s ≡ true
  unfolding all
  all_wider q g [] h = refl
  all_wider q g (x ∷ s) h = rw (g x (and_left (p x) (all p s) h)) (all_wider q g s (and_right (p x) (all p s) h))

  pub run_wider : (q : ℕ → Bool) → ((b : ℕ) → p b ≡ true → q b ≡ true) → (n : ℕ) (s : List ℕ) → run p n s ≡ true → run q n s ≡ true
  unfolding run
  run_wider q g n s h = rw (and_left (eqb (length s) n) (all p s) h) (all_wider q g s (run_all n s h))

  pub run_append : (m n : ℕ) (s t : List ℕ) → run p m s ≡ true → run p n t ≡ true → run p (m + n) (s ++ t) ≡ true
  run_append m n s t h k =
      all_run (m + n) (s ++ t) (simp length-append (omega (arith, run_length m s h, run_length n t k)))
      (all_append s t ∙ rw (run_all m s h, run_all n t k))

  -- ---- in front

  pub leading_most : (s : List ℕ) → leading p s ≤ length s
  unfolding leading
  leading_most [] = omega arith
  leading_most (x ∷ s) =
      let ih : leading p s ≤ length s = leading_most s in
      elim (p x) as (λ b. cond b (suc (leading p s)) 0 ≤ suc (length s)) [ true ↦ omega arith | false ↦ omega arith ]

  -- those in front pass
  pub leading_all : (s : List ℕ) → all p (take (leading p s) s) ≡ true
  unfolding leading all
  leading_all [] = refl
  leading_all (x ∷ s) = go (p x) refl (leading_all s)
    where
      go : (b : Bool) → p x ≡ b → all p (take (leading p s) s) ≡ true → all p (take (cond b (suc (leading p s)) 0) (x ∷ s)) ≡ true
      go true e ih = rw e ih
      go false e ih = refl

  -- as a counting loop has it: the first i pass
  unfoldable pub Leads : List ℕ → ℕ → Type 0
  Leads s i = leading p s ≡ i + leading p (drop i s)

  pub leads_start : (s : List ℕ) → Leads s 0
  unfolding Leads
  leads_start s = omega arith

  leads_step : (s : List ℕ) (i : ℕ) → i < length s → leading p (drop i s) ≡ cond (p (get_or s i 0)) (suc (leading p (drop (i + 1) s))) 0
  unfolding leading
  leads_step s i h = rw (add-one, drop-cons s i 0)

  pub leads_on : (s : List ℕ) (i : ℕ) → Leads s i → i < length s → (b : Bool) → b ≡ p (get_or s i 0) → b ≡ true → Leads s (i + 1)
  unfolding Leads
  leads_on s i v h b e t =
      let k : leading p (drop i s) ≡ suc (leading p (drop (i + 1) s)) = leads_step s i h ∙ rw (← e, t) in
      omega arith

  pub leads_off : (s : List ℕ) (i : ℕ) → Leads s i → i < length s → (b : Bool) → b ≡ p (get_or s i 0) → b ≡ false → i ≡ leading p s
  unfolding Leads
  leads_off s i v h b e t =
      let k : leading p (drop i s) ≡ 0 = leads_step s i h ∙ rw (← e, t) in
      omega arith

  pub leads_end : (s : List ℕ) (i : ℕ) → Leads s i → i ≤ length s → length s ≤ i → i ≡ leading p s
  unfolding Leads leading
  leads_end s i v h l = let k : leading p (drop i s) ≡ 0 = rw (drop_of_length-le s) in omega arith
