-- Laws of those of a list whose verdict passes a test. Assumes nothing.
use Rattle.std.specs.Prelude.{◌≡◌, Bool, true, false, not, length, take, get_or}
use Rattle.std.proofs.Math.Path.{refl}
use Rattle.std.proofs.Common.{sym}
use Rattle.std.proofs.lemmas.Bool.{false≢true}
use mathlib.Core.List.{List, [], ◌∷◌, ◌++◌, map}
use Prim.Native.Nat.{ℕ, zero, suc, ◌+◌, ◌≤◌, ◌<◌}
use native.Mathlib.Omega.{arith}
use Rattle.std.proofs.Math.Seq.{take-nil}
use Rattle.theory.specs.Same.{eqs}
use Rattle.theory.specs.Count.{bump, count}
use Rattle.theory.specs.laws.Count.{bump_le, bump_and_le}
use Rattle.theory.specs.Each.{Each, none, more}
use Rattle.theory.specs.Keep.{onto, sift}
use Rattle.theory.specs.laws.Keep.{onto_append, length_onto, map_onto, each_onto, count_onto}
use Rattle.theory.specs.Pick.{good, bad, pick}

pub bad_is : (v : ℕ) → bad v ≡ not (good v)
unfolding good bad
bad_is zero = refl
bad_is (suc v) = refl

pub good_zero : (v : ℕ) → good v ≡ true → v ≡ 0
unfolding good
good_zero zero h = refl
good_zero (suc v) h = absurd (false≢true h)

pub good_no : (v : ℕ) → (v ≡ 0 → ⊥) → good v ≡ false
unfolding good
good_no zero h = absurd (h refl)
good_no (suc v) h = refl

bumps : (v m n k : ℕ) → m + n ≡ k → bump (good v) m + bump (bad v) n ≡ suc k
unfolding bump good bad
bumps zero m n k h = omega arith
bumps (suc v) m n k h = omega arith

-- each is good or bad
pub pick_lengths : {A : Type 0} (vs : List ℕ) (xs : List A) → length vs ≡ length xs → length (pick good vs xs) + length (pick bad vs xs) ≡ length xs
unfolding pick
pick_lengths [] [] h = omega arith
pick_lengths [] (x ∷ xs) h = absurd (omega arith)
pick_lengths (v ∷ vs) [] h = absurd (omega arith)
pick_lengths (v ∷ vs) (x ∷ xs) h =
    rw (length_onto (good v) x (pick good vs xs), length_onto (bad v) x (pick bad vs xs)) (bumps v _ _ _ (pick_lengths vs xs (omega arith)))

module _ {A : Type 0} (p : ℕ → Bool) where
  -- one more at the end
  pub pick_snoc : (vs : List ℕ) (xs : List A) (v : ℕ) (x : A) → length vs ≡ length xs → pick p (vs ++ v ∷ []) (xs ++ x ∷ []) ≡ pick p vs xs ++ onto (p v) x []
  unfolding pick
  pick_snoc [] [] v x h = refl
  pick_snoc [] (y ∷ xs) v x h = absurd (omega arith)
  pick_snoc (u ∷ vs) [] v x h = absurd (omega arith)
  pick_snoc (u ∷ vs) (y ∷ xs) v x h = rw (pick_snoc vs xs v x (omega arith)) (sym (onto_append (p u) y (pick p vs xs) (onto (p v) x [])))

  -- one more to pick from, where there are verdicts enough
  pub pick_next : (vs : List ℕ) (xs : List A) (x : A) → length xs < length vs → pick p vs (xs ++ x ∷ []) ≡ pick p vs xs ++ onto (p (get_or vs (length xs) 0)) x []
  unfolding pick
  pick_next [] xs x h = absurd (omega arith)
  pick_next (v ∷ []) [] x h = refl
  pick_next (v ∷ u ∷ vs) [] x h = refl
  pick_next (v ∷ vs) (y ∷ xs) x h = rw (pick_next vs xs x (omega arith)) (sym (onto_append (p v) y (pick p vs xs) (onto (p (get_or vs (length xs) 0)) x [])))

  -- verdicts that nothing belongs to do not count
  pub pick_take : (n : ℕ) (vs : List ℕ) (xs : List A) → length xs ≡ n → pick p (take n vs) xs ≡ pick p vs xs
  unfolding pick
  pick_take n [] xs h = rw (take-nil n)
  pick_take zero (v ∷ vs) [] h = refl
  pick_take (suc n) (v ∷ vs) [] h = absurd (omega arith)
  pick_take zero (v ∷ vs) (x ∷ xs) h = absurd (omega arith)
  pick_take (suc n) (v ∷ vs) (x ∷ xs) h = rw (pick_take n vs xs (omega arith))

  -- one more to pick from, behind the last verdict
  pub pick_past : (vs : List ℕ) (xs : List A) (x : A) → length vs ≤ length xs → pick p vs (xs ++ x ∷ []) ≡ pick p vs xs
  unfolding pick
  pick_past [] xs x h = refl
  pick_past (v ∷ vs) [] x h = absurd (omega arith)
  pick_past (v ∷ vs) (y ∷ xs) x h = rw (pick_past vs xs x (omega arith))

  pub pick_length : (vs : List ℕ) (xs : List A) → length (pick p vs xs) ≤ length xs
  unfolding pick
  pick_length [] xs = omega arith
  pick_length (v ∷ vs) [] = omega arith
  pick_length (v ∷ vs) (x ∷ xs) = rw (length_onto (p v) x (pick p vs xs)) (bump_le (p v) _ _ (pick_length vs xs))

  pub pick_map : {B : Type 0} (f : A → B) (vs : List ℕ) (xs : List A) → pick p vs (map f xs) ≡ map f (pick p vs xs)
  unfolding pick
  pick_map f [] xs = refl
  pick_map f (v ∷ vs) [] = refl
  pick_map f (v ∷ vs) (x ∷ xs) = rw (pick_map f vs xs) (sym (map_onto f (p v) x (pick p vs xs)))

  -- verdicts made of the things themselves
  pub pick_sift : (f : A → ℕ) (xs : List A) → pick p (map f xs) xs ≡ sift (λ x. p (f x)) xs
  unfolding pick sift
  pick_sift f [] = refl
  pick_sift f (x ∷ xs) = rw (pick_sift f xs)

  -- what each has, each that is picked has
  pub all_pick : {q : A → Type 0} (vs : List ℕ) {xs : List A} → Each q xs → Each q (pick p vs xs)
  unfolding pick
  all_pick [] h = none
  all_pick (v ∷ vs) none = none
  all_pick (v ∷ vs) (more h hs) = each_onto (p v) _ _ (λ e. h) (all_pick vs hs)

pub count_pick : (p : ℕ → Bool) (t : List ℕ) (vs : List ℕ) (xs : List (List ℕ)) → count t (pick p vs xs) ≤ count t xs
unfolding count pick
count_pick p t [] xs = omega arith
count_pick p t (v ∷ vs) [] = omega arith
count_pick p t (v ∷ vs) (x ∷ xs) = rw (count_onto t (p v) x (pick p vs xs)) (bump_and_le (p v) (eqs t x) _ _ (count_pick p t vs xs))

-- of the verdicts themselves those that pass the test have what they have by passing it
pub each_picked : {q : ℕ → Type 0} (p : ℕ → Bool) {vs : List ℕ} → Each (λ v. p v ≡ true → q v) vs → Each q (pick p vs vs)
unfolding pick
each_picked p none = none
each_picked p (more h hs) = each_onto _ _ _ h (each_picked p hs)
