-- Laws of the place of the first part that passes a test, and of the parts in front of it. Assumes nothing.
use Rattle.std.specs.Prelude.{◌≡◌, Bool, not, ◌||◌, drop, get_or}
use Rattle.std.proofs.Math.Path.{refl, sym}
use Rattle.std.proofs.Common.{◌∙◌, true≢false, take_at, drop_at, length-take-le, ltb-true, lt-ltb, le-ltb}
use Rattle.std.proofs.Math.Bool.{true, false}
use mathlib.Core.List.{List, [], ◌∷◌}
use Prim.Native.Nat.{ℕ, zero, suc, ◌+◌, ◌≤◌, ◌<◌}
use native.Mathlib.Omega.{arith}
use Rattle.std.proofs.Math.Dec.{ltb}
use Rattle.std.proofs.Math.ListN.{length, take}
use Rattle.theory.specs.laws.Truth.{same_truth}
use Rattle.theory.specs.Parts.{chop, part_at}
use Rattle.theory.specs.laws.Parts.{parts_from, parts_start, parts_step, parts_end, length_chop}
use Rattle.theory.specs.Walk.{some}
use Rattle.theory.specs.laws.Join.{chop_split}
use Rattle.theory.specs.Pad.{front, front_on}
use Rattle.theory.specs.Place.{place_on, place}

pub ltb_suc : (m n : ℕ) → ltb m n ≡ ltb (suc m) (suc n)
ltb_suc m n =
    same_truth (ltb m n) (ltb (suc m) (suc n)) (λ e. lt-ltb (suc m) (suc n) (omega (arith, ltb-true m n e)))
    (λ e. lt-ltb m n (omega (arith, ltb-true (suc m) (suc n) e)))

module _ (q : List ℕ → Bool) where
  pub place_most : (xs : List (List ℕ)) → place q xs ≤ length xs
  unfolding place place_on
  place_most [] = omega arith
  place_most (x ∷ xs) = on (q x) (place_most xs)
    where
      on : (b : Bool) → place q xs ≤ length xs → place_on b (place q xs) ≤ suc (length xs)
      on true h = omega arith
      on false h = omega arith

  pub place_hit : (xs : List (List ℕ)) → place q xs < length xs → q (get_or xs (place q xs) []) ≡ true
  unfolding place place_on
  place_hit [] h = absurd (omega arith)
  place_hit (x ∷ xs) h = on (q x) refl (place_hit xs) h
    where
      on : (b : Bool) → q x ≡ b → (place q xs < length xs → q (get_or xs (place q xs) []) ≡ true) → place_on b (place q xs) < suc (length xs)
          → q (get_or (x ∷ xs) (place_on b (place q xs)) []) ≡ true
      on true e ih h = e
      on false e ih h = ih (omega arith)

  -- one passes where there is such a place
  pub place_some : (xs : List (List ℕ)) → some q xs ≡ ltb (place q xs) (length xs)
  unfolding some place place_on
  place_some [] = refl
  place_some (x ∷ xs) = rw (place_some xs) (on (q x) (place q xs) (length xs))
    where
      on : (b : Bool) (m n : ℕ) → b || ltb m n ≡ ltb (place_on b m) (suc n)
      on true m n = sym (lt-ltb 0 (suc n) (omega arith))
      on false m n = ltb_suc m n

  -- it is not behind any that passes
  pub place_before : (xs : List (List ℕ)) (i : ℕ) → i < length xs → q (get_or xs i []) ≡ true → place q xs ≤ i
  unfolding place place_on
  place_before [] i h e = absurd (omega arith)
  place_before (x ∷ xs) i h e = go (q x) refl (λ j. place_before xs j) i h e
    where
      go : (b : Bool) → q x ≡ b → ((j : ℕ) → j < length xs → q (get_or xs j []) ≡ true → place q xs ≤ j) → (i : ℕ) → i < suc (length xs) → q (get_or (x ∷ xs) i []) ≡ true → place_on b (place q xs) ≤ i
      go true f ih i h e = omega arith
      go false f ih zero h e = absurd (true≢false (sym e ∙ f))
      go false f ih (suc i) h e = omega (arith, ih i (omega arith) e)

-- ---- a walk over n parts of width w

-- the place is not before i
unfoldable pub Placing : (List ℕ → Bool) → ℕ → ℕ → List ℕ → ℕ → Type 0
Placing q w n b i = place q (chop w n b) ≡ i + place q (parts_from w n i b)

module _ (q : List ℕ → Bool) (w n : ℕ) (b : List ℕ) where
  pub placing_start : Placing q w n b 0
  unfolding Placing
  placing_start = rw (parts_start w n b) (omega arith)

  module _ (i : ℕ) (v : Placing q w n b i) where
    pub placing_end : n ≤ i → i ≡ place q (chop w n b)
    unfolding Placing place
    placing_end h = let e : place q (parts_from w n i b) ≡ 0 = rw (parts_end w n b i h) in omega arith

    pub none_end : n ≤ i → some q (chop w n b) ≡ false
    none_end h = place_some q (chop w n b) ∙ rw (← placing_end h, length_chop w n b) (le-ltb i n h)

    -- x is the part, and r what the test said of it
    module _ (h : i < n) (x : List ℕ) (p : x ≡ part_at w i b) (r : Bool) (e : r ≡ q x) where
      step : place q (parts_from w n i b) ≡ place_on r (place q (parts_from w n (i + 1) b))
      unfolding place
      step = rw (parts_step w n b i h, ← p, ← e)

      pub placing_on : r ≡ false → Placing q w n b (i + 1)
      unfolding Placing place_on
      placing_on t = let s : place q (parts_from w n i b) ≡ suc (place q (parts_from w n (i + 1) b)) = step ∙ rw t in omega arith

      pub placing_off : r ≡ true → i ≡ place q (chop w n b)
      unfolding Placing place_on
      placing_off t = let s : place q (parts_from w n i b) ≡ 0 = step ∙ rw t in omega arith

      pub some_off : r ≡ true → some q (chop w n b) ≡ true
      some_off t = place_some q (chop w n b) ∙ rw (← placing_off t, length_chop w n b) (lt-ltb i n h)

-- ---- the first k parts, and those behind them

module _ (w n k : ℕ) (b : List ℕ) (h : k ≤ n) where
  pub take_chop : take k (chop w n b) ≡ chop w k b
  take_chop = rw (chop_split w n k b h) (take_at (chop w k b) (parts_from w n k b) k (length_chop w k b))

  pub drop_chop : drop k (chop w n b) ≡ parts_from w n k b
  drop_chop = rw (chop_split w n k b h) (drop_at (chop w k b) (parts_from w n k b) k (length_chop w k b))

-- ---- those in front of the first that does not pass

module _ (q : List ℕ → Bool) where
  abbrev past : List (List ℕ) → ℕ
  past = place (λ x. not (q x))

  pub front_take : (xs : List (List ℕ)) → front q xs ≡ take (place (λ x. not (q x)) xs) xs
  unfolding front front_on place place_on
  front_take [] = refl
  front_take (x ∷ xs) = on (q x) (front_take xs)
    where
      on : (b : Bool) → front q xs ≡ take (past xs) xs → front_on b x (front q xs) ≡ take (place_on (not b) (past xs)) (x ∷ xs)
      on true h = rw h
      on false h = refl

  pub length_front_place : (xs : List (List ℕ)) → length (front q xs) ≡ place (λ x. not (q x)) xs
  length_front_place xs = rw (front_take xs) (length-take-le (past xs) xs (place_most (λ x. not (q x)) xs))

  pub front_chop : (w n : ℕ) (b : List ℕ) → front q (chop w n b) ≡ chop w (place (λ x. not (q x)) (chop w n b)) b
  front_chop w n b = front_take (chop w n b) ∙ take_chop w n (past (chop w n b)) b (omega (arith, place_most (λ x. not (q x)) (chop w n b), length_chop w n b))
