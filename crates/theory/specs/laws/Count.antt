-- Laws of counting. Assumes nothing.
use Rattle.std.specs.Prelude.{◌≡◌, refl, Bool, true, false, ◌&&◌, ◌||◌, List, [], ◌∷◌, ◌++◌, ℕ, suc, ◌+◌, ◌≤◌, ltb}
use Rattle.std.proofs.Common.{sym, arith, lt-ltb}
use Rattle.std.proofs.lemmas.Bool.{false≢true}
use Rattle.theory.specs.Same.{eqs, mem}
use Rattle.theory.specs.laws.Same.{eqs_refl}
use Rattle.theory.specs.Count.{bump, count}

pub bump_le : (b : Bool) (m n : ℕ) → m ≤ n → bump b m ≤ suc n
unfolding bump
bump_le true m n h = omega arith
bump_le false m n h = omega arith

pub bump_and_le : (b c : Bool) (m n : ℕ) → m ≤ n → bump (b && c) m ≤ bump c n
unfolding bump
bump_and_le true true m n h = omega arith
bump_and_le true false m n h = omega arith
bump_and_le false true m n h = omega arith
bump_and_le false false m n h = omega arith

pub bump_and_eq : (b c : Bool) (m n : ℕ) → m ≡ n → (c ≡ true → b ≡ true) → bump (b && c) m ≡ bump c n
unfolding bump
bump_and_eq true true m n h k = omega arith
bump_and_eq true false m n h k = omega arith
bump_and_eq false true m n h k = absurd (false≢true (k refl))
bump_and_eq false false m n h k = omega arith

-- the bump may be of either part of a sum
pub bump_add : (b : Bool) (m n : ℕ) → bump b m + n ≡ m + bump b n
unfolding bump
bump_add true m n = omega arith
bump_add false m n = omega arith

bump_out : (b : Bool) (m n : ℕ) → bump b (m + n) ≡ bump b m + n
unfolding bump
bump_out true m n = omega arith
bump_out false m n = omega arith

pub count_self : (t : List ℕ) (xs : List (List ℕ)) → count t (t ∷ xs) ≡ suc (count t xs)
unfolding count bump
count_self t xs = rw (eqs_refl t)

pub count_append : (t : List ℕ) (xs ys : List (List ℕ)) → count t (xs ++ ys) ≡ count t xs + count t ys
unfolding count
count_append t [] ys = omega arith
count_append t (x ∷ xs) ys = rw (count_append t xs ys) (bump_out (eqs t x) (count t xs) (count t ys))

-- what stands among others stands there at least once
pub mem_count : (t : List ℕ) (xs : List (List ℕ)) → mem t xs ≡ ltb 0 (count t xs)
unfolding mem count bump
mem_count t [] = refl
mem_count t (x ∷ xs) = rw (mem_count t xs) (either (eqs t x) (count t xs))
  where
    either : (b : Bool) (n : ℕ) → b || ltb 0 n ≡ ltb 0 (bump b n)
    either true n = sym (lt-ltb 0 (suc n) (omega arith))
    either false n = refl
