-- Laws of lists of bytes that are the same, and of a list among others. Assumes nothing.
use Rattle.std.specs.Prelude.{◌≡◌, refl, Bool, true, false, ◌&&◌, ◌||◌, List, [], ◌∷◌, ◌++◌, eqb, take, get_or}
use Rattle.std.proofs.Math.Path.{sym, ap}
use Rattle.std.proofs.Common.{ap₂, ◌∙◌, take_all, eqb-true, eq-eqb, ne_eqb}
use Rattle.std.proofs.lemmas.Bool.{false≢true}
use Prim.Native.Nat.{ℕ, suc, ◌-◌, ◌≤◌, ◌<◌}
use native.Mathlib.Omega.{arith}
use Rattle.std.proofs.Math.ListN.{length}
use Rattle.std.proofs.Math.Seq.{length-take-le, take-suc}
use Rattle.theory.specs.laws.Truth.{and_left, and_right, and_none, and_true, and_assoc, same_truth, or_assoc}
use Rattle.theory.specs.Same.{eqs, mem}

pub eqs_refl : (a : List ℕ) → eqs a a ≡ true
unfolding eqs
eqs_refl [] = refl
eqs_refl (x ∷ xs) = rw (eq-eqb x x refl) (eqs_refl xs)

pub eqs_true : (a b : List ℕ) → eqs a b ≡ true → a ≡ b
unfolding eqs
eqs_true [] [] h = refl
eqs_true [] (y ∷ ys) h = absurd (false≢true h)
eqs_true (x ∷ xs) [] h = absurd (false≢true h)
eqs_true (x ∷ xs) (y ∷ ys) h = ap₂ ◌∷◌ (eqb-true x y (and_left (eqb x y) (eqs xs ys) h)) (eqs_true xs ys (and_right (eqb x y) (eqs xs ys) h))

pub eq_eqs : (a b : List ℕ) → a ≡ b → eqs a b ≡ true
eq_eqs a b h = rw h (eqs_refl b)

pub eqs_sym : (a b : List ℕ) → eqs a b ≡ eqs b a
eqs_sym a b = same_truth (eqs a b) (eqs b a) (λ e. eq_eqs b a (sym (eqs_true a b e))) (λ e. eq_eqs a b (sym (eqs_true b a e)))

-- lists of two lengths differ
pub eqs_lengths : (a b : List ℕ) → (length a ≡ length b → ⊥) → eqs a b ≡ false
unfolding eqs
eqs_lengths [] [] h = absurd (h refl)
eqs_lengths [] (y ∷ ys) h = refl
eqs_lengths (x ∷ xs) [] h = refl
eqs_lengths (x ∷ xs) (y ∷ ys) h = and_none (eqb x y) (eqs xs ys) (eqs_lengths xs ys (λ e. h (ap suc e)))

-- ---- the same up to the place i, as a loop has it that compares from the last byte to the first

unfoldable pub eqs_to : List ℕ → List ℕ → ℕ → Bool
eqs_to a b i = eqs (take i a) (take i b)

pub eqs_whole : (a b : List ℕ) (i : ℕ) → length a ≤ i → length b ≤ i → eqs a b ≡ eqs_to a b i
unfolding eqs_to
eqs_whole a b i ha hb = rw (take_all i a ha, take_all i b hb)

pub eqs_none : (a b : List ℕ) → eqs_to a b 0 ≡ true
unfolding eqs eqs_to
eqs_none a b = refl

eqs_snoc : (a b : List ℕ) (x y : ℕ) → length a ≡ length b → eqs (a ++ x ∷ []) (b ++ y ∷ []) ≡ eqs a b && eqb x y
unfolding eqs
eqs_snoc [] [] x y h = and_true (eqb x y)
eqs_snoc [] (q ∷ b) x y h = absurd (omega arith)
eqs_snoc (p ∷ a) [] x y h = absurd (omega arith)
eqs_snoc (p ∷ a) (q ∷ b) x y h = rw (eqs_snoc a b x y (omega arith)) (sym (and_assoc (eqb p q) (eqs a b) (eqb x y)))

-- the byte before the place i decides, and what is before it
module _ (a b : List ℕ) (i : ℕ) (p : 0 < i) (ha : i ≤ length a) (hb : i ≤ length b) where
  eqs_step : eqs_to a b i ≡ eqs_to a b (i - 1) && eqb (get_or a (i - 1) 0) (get_or b (i - 1) 0)
  unfolding eqs_to
  eqs_step =
      let j : ℕ = i - 1 in
      let e : i ≡ suc j = omega arith in
      let l : length (take j a) ≡ length (take j b) = length-take-le j a (omega arith) ∙ sym (length-take-le j b (omega arith)) in
      ap (λ (k : ℕ). eqs (take k a) (take k b)) e ∙ rw (take-suc a j 0 (omega arith), take-suc b j 0 (omega arith)) (eqs_snoc (take j a) (take j b) (get_or a j 0) (get_or b j 0) l)

  pub eqs_on : get_or a (i - 1) 0 ≡ get_or b (i - 1) 0 → eqs_to a b i ≡ eqs_to a b (i - 1)
  eqs_on h = eqs_step ∙ rw (eq-eqb (get_or a (i - 1) 0) (get_or b (i - 1) 0) h) (and_true (eqs_to a b (i - 1)))

  pub eqs_off : (get_or a (i - 1) 0 ≡ get_or b (i - 1) 0 → ⊥) → eqs_to a b i ≡ false
  eqs_off h = eqs_step ∙ and_none (eqs_to a b (i - 1)) (eqb (get_or a (i - 1) 0) (get_or b (i - 1) 0)) (ne_eqb (get_or a (i - 1) 0) (get_or b (i - 1) 0) h)

-- ---- among others

pub mem_append : (t : List ℕ) (xs ys : List (List ℕ)) → mem t (xs ++ ys) ≡ mem t xs || mem t ys
unfolding mem
mem_append t [] ys = refl
mem_append t (x ∷ xs) ys = rw (mem_append t xs ys) (sym (or_assoc (eqs t x) (mem t xs) (mem t ys)))
