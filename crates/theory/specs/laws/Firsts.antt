-- Laws of which texts are the first of their kind, and what a walk over them keeps. Assumes nothing.
use Rattle.std.specs.Prelude.{◌≡◌, Bool, ◌&&◌, drop, get_or}
use Rattle.std.proofs.Math.Path.{refl}
use Rattle.std.proofs.Common.{◌∙◌, true≢false, arith, drop_of_length-le}
use Rattle.std.proofs.Math.Bool.{true, false, not}
use Rattle.std.proofs.lemmas.Bool.{false≢true, not-true}
use mathlib.Core.List.{List, [], ◌∷◌, ◌++◌, append_assoc, append-nil}
use Prim.Native.Nat.{ℕ, zero, suc, ◌+◌, ◌≤◌, ◌<◌}
use Rattle.std.proofs.Math.Numerals.{add-one}
use Rattle.std.proofs.Math.ListN.{length, take}
use Rattle.std.proofs.Math.Seq.{take-suc, drop-cons}
use Rattle.theory.specs.laws.Truth.{and_left, and_right, and_both, or_true}
use Rattle.theory.specs.Same.{eqs, mem}
use Rattle.theory.specs.laws.Same.{eqs_refl}
use Rattle.theory.specs.Pick.{good}
use Rattle.theory.specs.Firsts.{firsts_from, firsts}

mem_take : (ts : List (List ℕ)) (i k : ℕ) → i < k → k < length ts → mem (get_or ts i []) (take k ts) ≡ true
unfolding mem
mem_take [] i k a b = absurd (omega arith)
mem_take (t ∷ ts) i zero a b = absurd (omega arith)
mem_take (t ∷ ts) zero (suc k) a b = rw (eqs_refl t)
mem_take (t ∷ ts) (suc i) (suc k) a b = or_true (eqs (get_or ts i []) t) _ (mem_take ts i k (omega arith) (omega arith))

-- ---- what the test says of a text, and of those behind it

module _ (before : List (List ℕ)) (t : List ℕ) (ts : List (List ℕ)) (v : ℕ) (vs : List ℕ) (h : firsts_from before (t ∷ ts) (v ∷ vs) ≡ true) where
  pub firsts_head : mem t before ≡ true → good v ≡ false
  unfolding firsts_from
  firsts_head m = go (good v) (mem t before) (and_left _ (firsts_from (before ++ t ∷ []) ts vs) h) m
    where
      go : (a b : Bool) → not (a && b) ≡ true → b ≡ true → a ≡ false
      go true true e m = absurd (false≢true e)
      go true false e m = absurd (false≢true m)
      go false b e m = refl

  pub firsts_tail : firsts_from (before ++ t ∷ []) ts vs ≡ true
  unfolding firsts_from
  firsts_tail = and_right (not (good v && mem t before)) _ h

-- a text with the verdict 0 is the first of its kind
pub firsts_zero : (before : List (List ℕ)) (t : List ℕ) (ts : List (List ℕ)) (vs : List ℕ) → firsts_from before (t ∷ ts) (0 ∷ vs) ≡ true → mem t before ≡ false
unfolding firsts_from good
firsts_zero before t ts vs h = not-true (mem t before) (and_left _ (firsts_from (before ++ t ∷ []) ts vs) h)

pub firsts_more : (before : List (List ℕ)) (t : List ℕ) (ts : List (List ℕ)) (v : ℕ) (vs : List ℕ)
    → (mem t before ≡ true → good v ≡ false) → firsts_from (before ++ t ∷ []) ts vs ≡ true → firsts_from before (t ∷ ts) (v ∷ vs) ≡ true
unfolding firsts_from
firsts_more before t ts v vs g h = and_both _ _ (go (good v) (mem t before) g) h
  where
    go : (a b : Bool) → (b ≡ true → a ≡ false) → not (a && b) ≡ true
    go true true k = absurd (true≢false (k refl))
    go true false k = refl
    go false b k = refl

-- ---- by their places

module _ (ts : List (List ℕ)) (vs : List ℕ) (l : length vs ≡ length ts) (h : firsts ts vs ≡ true) where
  -- a text that stands in front has another verdict than 0
  firsts_at : (k : ℕ) → k < length ts → mem (get_or ts k []) (take k ts) ≡ true → good (get_or vs k 0) ≡ false
  unfolding firsts
  firsts_at k b m = go [] ts vs l h k b m
    where
      go : (before us : List (List ℕ)) (ws : List ℕ) → length ws ≡ length us → firsts_from before us ws ≡ true → (k : ℕ) → k < length us
          → mem (get_or us k []) (before ++ take k us) ≡ true → good (get_or ws k 0) ≡ false
      go before [] ws q g k b m = absurd (omega arith)
      go before (u ∷ us) [] q g k b m = absurd (omega arith)
      go before (u ∷ us) (w ∷ ws) q g zero b m = firsts_head before u us w ws g (rw (append-nil before) at m)
      go before (u ∷ us) (w ∷ ws) q g (suc k) b m =
          go (before ++ u ∷ []) us ws (omega arith) (firsts_tail before u us w ws g) k (omega arith) (rw (append_assoc before (u ∷ []) (take k us)) m)

  -- so has the later of two equal texts
  pub firsts_later : (i k : ℕ) → i < k → k < length ts → get_or ts i [] ≡ get_or ts k [] → good (get_or vs k 0) ≡ false
  firsts_later i k a b e = firsts_at k b (rw (← e) (mem_take ts i k a b))

-- ---- a walk: the texts from the place i on decide

unfoldable pub FirstsFrom : List (List ℕ) → List ℕ → ℕ → Type 0
FirstsFrom ts vs i = firsts ts vs ≡ firsts_from (take i ts) (drop i ts) (drop i vs)

module _ (ts : List (List ℕ)) (vs : List ℕ) where
  pub firsts_start : FirstsFrom ts vs 0
  unfolding FirstsFrom firsts
  firsts_start = refl

  module _ (i : ℕ) (h : FirstsFrom ts vs i) where
    pub firsts_end : length ts ≤ i → firsts ts vs ≡ true
    unfolding FirstsFrom firsts_from
    firsts_end l = h ∙ rw (drop_of_length-le ts l)

    -- r says whether the text at i has the verdict 0 and stands in front
    module _ (a : i < length ts) (b : i < length vs) (r : Bool) (e : r ≡ good (get_or vs i 0) && mem (get_or ts i []) (take i ts)) where
      step : firsts ts vs ≡ not r && firsts_from (take (suc i) ts) (drop (suc i) ts) (drop (suc i) vs)
      unfolding FirstsFrom firsts_from
      step = h ∙ rw (drop-cons ts i [] a, drop-cons vs i 0 b, take-suc ts i [] a, ← e)

      pub firsts_on : r ≡ false → FirstsFrom ts vs (i + 1)
      unfolding FirstsFrom
      firsts_on q = step ∙ rw (q, add-one i)

      pub firsts_off : r ≡ true → firsts ts vs ≡ false
      firsts_off q = step ∙ rw q
