-- The words of this crate and those of the library, which the library's methods are specified in: each pair is one. Assumes nothing.
use Rattle.std.specs.Prelude.{◌≡◌, Bool, true, false, not, cond, ◌&&◌, ◌||◌, List, [], ◌∷◌, ℕ, zero, suc, ◌+◌, length}
use Rattle.std.proofs.Common.{refl}
use native.Mathlib.Omega.{arith}
use Rattle.std.specs.List.{list_all, list_any, prefix_len, position_or_len, count_by}
use Rattle.std.specs.Simd.{first_chunks}
use Rattle.std.specs.Str.{bytes_eq}
use Rattle.std.proofs.lemmas.List.Recursion.{same_from_clauses, is_count_by}
use Rattle.theory.specs.Every.{all, leading}
use Rattle.theory.specs.Walk.{each, some}
use Rattle.theory.specs.Parts.{chop}
use Rattle.theory.specs.Place.{place, place_on}
use Rattle.theory.specs.Count.{bump}
use Rattle.theory.specs.Tally.{tally}
use Rattle.theory.specs.Keep.{sift, onto}
use Rattle.theory.specs.Same.{eqs, mem}

pub all_is : (p : ℕ → Bool) (s : List ℕ) → all p s ≡ list_all p s
unfolding all
all_is p s = same_from_clauses (all p) (list_all p) (λ x r. p x && r) refl (λ _ _. refl) (λ _ _. refl) s

pub leading_is : (p : ℕ → Bool) (s : List ℕ) → leading p s ≡ prefix_len p s
unfolding leading
leading_is p [] = refl
leading_is p (x ∷ xs) = rw (leading_is p xs) (on (p x) (prefix_len p xs))
  where
    on : (b : Bool) (n : ℕ) → cond b (suc n) 0 ≡ cond b (1 + n) 0
    on true n = omega arith
    on false n = refl

pub each_is : (q : List ℕ → Bool) (xs : List (List ℕ)) → each q xs ≡ list_all q xs
unfolding each
each_is q xs = same_from_clauses (each q) (list_all q) (λ x r. q x && r) refl (λ _ _. refl) (λ _ _. refl) xs

pub some_is : (q : List ℕ → Bool) (xs : List (List ℕ)) → some q xs ≡ list_any q xs
unfolding some
some_is q xs = same_from_clauses (some q) (list_any q) (λ x r. q x || r) refl (λ _ _. refl) (λ _ _. refl) xs

pub place_is : (q : List ℕ → Bool) (xs : List (List ℕ)) → place q xs ≡ position_or_len q xs
unfolding place place_on
place_is q [] = refl
place_is q (x ∷ xs) = rw (place_is q xs) (on (q x) (position_or_len q xs))
  where
    on : (b : Bool) (n : ℕ) → place_on b n ≡ cond (not b) (1 + n) 0
    on true n = refl
    on false n = omega arith

pub sift_is : {A : Type 0} (p : A → Bool) (xs : List A) → length (sift p xs) ≡ count_by p xs
unfolding sift onto
sift_is {A} p xs = is_count_by (λ ys. length (sift p ys)) p refl (λ y ys. on (p y) y (sift p ys)) xs
  where
    on : (b : Bool) (y : A) (ys : List A) → length (onto b y ys) ≡ cond b (1 + length ys) (length ys)
    on true y ys = omega arith
    on false y ys = refl

pub tally_is : (p : ℕ → Bool) (vs : List ℕ) → tally p vs ≡ count_by p vs
unfolding tally bump
tally_is p vs = is_count_by (tally p) p refl (λ w ws. on (p w) (tally p ws)) vs
  where
    on : (b : Bool) (n : ℕ) → bump b n ≡ cond b (1 + n) n
    on true n = omega arith
    on false n = refl

pub mem_is : (t : List ℕ) (xs : List (List ℕ)) → mem t xs ≡ list_any (eqs t) xs
unfolding mem
mem_is t xs = same_from_clauses (mem t) (list_any (eqs t)) (λ x r. eqs t x || r) refl (λ _ _. refl) (λ _ _. refl) xs

pub eqs_is : (a b : List ℕ) → eqs a b ≡ bytes_eq a b
unfolding eqs
eqs_is [] [] = refl
eqs_is [] (y ∷ ys) = refl
eqs_is (x ∷ xs) [] = refl
eqs_is (x ∷ xs) (y ∷ ys) = rw (eqs_is xs ys) refl

pub chop_is : (w n : ℕ) (b : List ℕ) → chop w n b ≡ first_chunks w n b
unfolding chop
chop_is w zero b = refl
chop_is w (suc n) b = rw (chop_is w n _) refl
