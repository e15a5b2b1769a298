-- Laws of what a test keeps of a list, in order. Assumes nothing.
use Rattle.std.specs.Prelude.{◌≡◌, Bool, ◌&&◌, ◌||◌}
use Rattle.std.proofs.Math.Path.{refl}
use Rattle.std.proofs.Common.{sym, ◌∙◌, true≢false}
use Rattle.std.proofs.Math.Bool.{true, false, not}
use mathlib.Core.List.{List, [], ◌∷◌, ◌++◌, map}
use Prim.Native.Nat.{ℕ, suc, ◌+◌, ◌≤◌}
use native.Mathlib.Omega.{arith}
use Rattle.std.proofs.Math.ListN.{length}
use Rattle.theory.specs.laws.Truth.{and_none}
use Rattle.theory.specs.Same.{eqs, mem}
use Rattle.theory.specs.Count.{bump, count}
use Rattle.theory.specs.laws.Count.{bump_le}
use Rattle.theory.specs.Each.{Each, none, more}
use Rattle.theory.specs.laws.Each.{each_map}
use Rattle.theory.specs.Keep.{onto, sift}

-- ---- one in front or not

module _ {A : Type 0} where
  pub onto_append : (b : Bool) (x : A) (xs ys : List A) → onto b x xs ++ ys ≡ onto b x (xs ++ ys)
  unfolding onto
  onto_append true x xs ys = refl
  onto_append false x xs ys = refl

  pub length_onto : (b : Bool) (x : A) (xs : List A) → length (onto b x xs) ≡ bump b (length xs)
  unfolding onto bump
  length_onto true x xs = refl
  length_onto false x xs = refl

  pub map_onto : {B : Type 0} (f : A → B) (b : Bool) (x : A) (xs : List A) → map f (onto b x xs) ≡ onto b (f x) (map f xs)
  unfolding onto
  map_onto f true x xs = refl
  map_onto f false x xs = refl

  pub each_onto : {q : A → Type 0} (b : Bool) (x : A) (xs : List A) → (b ≡ true → q x) → Each q xs → Each q (onto b x xs)
  unfolding onto
  each_onto true x xs h hs = more (h refl) hs
  each_onto false x xs h hs = hs

pub mem_onto : (t : List ℕ) (b : Bool) (x : List ℕ) (xs : List (List ℕ)) → mem t (onto b x xs) ≡ (b && eqs t x) || mem t xs
unfolding mem onto
mem_onto t true x xs = refl
mem_onto t false x xs = refl

pub count_onto : (t : List ℕ) (b : Bool) (x : List ℕ) (xs : List (List ℕ)) → count t (onto b x xs) ≡ bump (b && eqs t x) (count t xs)
unfolding count onto bump
count_onto t true x xs = refl
count_onto t false x xs = refl

pub count_onto_other : (t : List ℕ) (b : Bool) (x : List ℕ) (xs : List (List ℕ)) → eqs t x ≡ false → count t (onto b x xs) ≡ count t xs
unfolding bump
count_onto_other t b x xs h = count_onto t b x xs ∙ rw (and_none b (eqs t x) h)

-- ---- all that pass

module _ {A : Type 0} (p : A → Bool) where
  pub sift_append : (xs ys : List A) → sift p (xs ++ ys) ≡ sift p xs ++ sift p ys
  unfolding sift
  sift_append [] ys = refl
  sift_append (x ∷ xs) ys = rw (sift_append xs ys) (sym (onto_append (p x) x (sift p xs) (sift p ys)))

  pub sift_length : (xs : List A) → length (sift p xs) ≤ length xs
  unfolding sift
  sift_length [] = omega arith
  sift_length (x ∷ xs) = rw (length_onto (p x) x (sift p xs)) (bump_le (p x) _ _ (sift_length xs))

  pub length_sift_onto : (b : Bool) (x : A) (xs : List A) → length (sift p (onto b x xs)) ≡ bump (b && p x) (length (sift p xs))
  unfolding sift onto bump
  length_sift_onto true x xs = length_onto (p x) x (sift p xs)
  length_sift_onto false x xs = refl

  -- each passes or does not
  pub sift_counts : (xs : List A) → length (sift p xs) + length (sift (λ x. not (p x)) xs) ≡ length xs
  unfolding sift bump
  sift_counts [] = refl
  sift_counts (x ∷ xs) =
      rw (length_onto (p x) x (sift p xs), length_onto (not (p x)) x (sift (λ y. not (p y)) xs)) (go (p x) _ _ (sift_counts xs))
    where
      go : (b : Bool) (m n : ℕ) → m + n ≡ length xs → bump b m + bump (not b) n ≡ suc (length xs)
      go true m n h = omega arith
      go false m n h = omega arith

  -- each that is kept passes
  pub sift_passes : (xs : List A) → Each (λ x. p x ≡ true) (sift p xs)
  unfolding sift
  sift_passes [] = none
  sift_passes (x ∷ xs) = each_onto (p x) x (sift p xs) (λ e. e) (sift_passes xs)

  -- what each has, each that is kept has
  pub each_sift : {q : A → Type 0} {xs : List A} → Each q xs → Each q (sift p xs)
  unfolding sift
  each_sift none = none
  each_sift (more h hs) = each_onto _ _ _ (λ e. h) (each_sift hs)

  pub sift_all : {xs : List A} → Each (λ x. p x ≡ true) xs → sift p xs ≡ xs
  unfolding sift onto
  sift_all none = refl
  sift_all (more h hs) = rw (h, sift_all hs)

  pub sift_none : {xs : List A} → Each (λ x. p x ≡ false) xs → sift p xs ≡ []
  unfolding sift onto
  sift_none none = refl
  sift_none (more h hs) = rw h (sift_none hs)

  -- where none passes all are left
  pub sift_rest : (xs : List A) → length (sift p xs) ≡ 0 → sift (λ x. not (p x)) xs ≡ xs
  unfolding sift onto
  sift_rest [] h = refl
  sift_rest (x ∷ xs) h = go (p x) h (sift_rest xs)
    where
      go : (b : Bool) → length (onto b x (sift p xs)) ≡ 0 → (length (sift p xs) ≡ 0 → sift (λ y. not (p y)) xs ≡ xs)
          → onto (not b) x (sift (λ y. not (p y)) xs) ≡ x ∷ xs
      go true k ih = absurd (omega arith)
      go false k ih = rw (ih k)

-- ---- two tests

module _ {A : Type 0} (p q : A → Bool) where
  -- that say the same
  pub sift_same : ((x : A) → p x ≡ q x) → (xs : List A) → sift p xs ≡ sift q xs
  unfolding sift
  sift_same g [] = refl
  sift_same g (x ∷ xs) = rw (g x, sift_same g xs)

-- one after the other
module _ {A : Type 0} (p q : A → Bool) where
  pub sift_apart : ((x : A) → q x ≡ true → p x ≡ false) → (xs : List A) → sift p (sift q xs) ≡ []
  sift_apart g xs = sift_none p (each_map g (sift_passes q xs))

  pub sift_inside : ((x : A) → p x ≡ true → q x ≡ true) → (xs : List A) → sift p (sift q xs) ≡ sift p xs
  unfolding sift onto
  sift_inside g [] = refl
  sift_inside g (x ∷ xs) = go (p x) (q x) refl refl (sift_inside g xs)
    where
      go : (a b : Bool) → p x ≡ a → q x ≡ b → sift p (sift q xs) ≡ sift p xs → sift p (onto b x (sift q xs)) ≡ onto a x (sift p xs)
      go true true e₁ e₂ h = rw (e₁, h)
      go true false e₁ e₂ h = absurd (true≢false (sym (g x e₁) ∙ e₂))
      go false true e₁ e₂ h = rw (e₁, h)
      go false false e₁ e₂ h = h

  -- in either order
  pub sift_swap : (xs : List A) → sift p (sift q xs) ≡ sift q (sift p xs)
  unfolding sift onto
  sift_swap [] = refl
  sift_swap (x ∷ xs) = go (p x) (q x) refl refl (sift_swap xs)
    where
      go : (a b : Bool) → p x ≡ a → q x ≡ b → sift p (sift q xs) ≡ sift q (sift p xs) → sift p (onto b x (sift q xs)) ≡ sift q (onto a x (sift p xs))
      go true true e₁ e₂ h = rw (e₁, e₂, h)
      go true false e₁ e₂ h = rw (e₂, h)
      go false true e₁ e₂ h = rw (e₁, h)
      go false false e₁ e₂ h = h
