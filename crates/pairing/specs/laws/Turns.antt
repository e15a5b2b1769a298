-- What the walk keeps that pairs lines with copies, from the last line to the first: it counts the copies that wait and
-- writes a mark for each line. Assumes nothing.
use Rattle.std.specs.Prelude.{◌≡◌, refl, Bool, true, false, length, get_or, set}
use Rattle.std.proofs.Common.{◌∙◌, lt-length-set, drop-set-lt, get_or-set_same}
use mathlib.Core.List.{List, [], ◌∷◌}
use Prim.Native.Nat.{ℕ, zero, suc, ◌+◌, ◌-◌, ◌<◌}
use native.Mathlib.Omega.{arith}
use Rattle.std.proofs.Math.ListN.{drop, drop_of_length-le}
use Rattle.std.proofs.Math.Seq.{drop-cons}
use Rattle.theory.specs.Same.{eqs}
use Rattle.theory.specs.Count.{bump}
use Rattle.pairing.specs.Backwards.{is_last, lower, waiting, paired}

-- ---- from the last line to the first: the lines from the place i on are paired, k copies wait, and ms are the marks

unfoldable pub Pairs : List (List ℕ) → List (List ℕ) → ℕ → ℕ → List ℕ → Type 0
Pairs all copies i k ms = (k ≡ waiting (drop i all) copies) × (drop i ms ≡ paired (drop i all) copies)

drop_set : (ms : List ℕ) (j m : ℕ) → j < length ms → drop j (set ms j m) ≡ m ∷ drop (suc j) ms
drop_set ms j m h =
    drop-cons (set ms j m) j 0 (lt-length-set ms j m h) ∙ rw (get_or-set_same ms j m 0 h, drop-set-lt (suc j) ms j m (omega arith))

module _ (all copies : List (List ℕ)) where
  pub pairs_start : (ms : List ℕ) → length ms ≡ length all → (i : ℕ) → i ≡ length all → (k : ℕ) → k ≡ length copies → Pairs all copies i k ms
  unfolding Pairs waiting paired
  pairs_start ms l i e k c =
      let n : drop i all ≡ [] = drop_of_length-le all {i = i} (omega arith) in
      let m : drop i ms ≡ [] = drop_of_length-le ms {i = i} (omega arith) in
      (rw n c, rw (n, m))

  module _ (i k : ℕ) (ms : List ℕ) (p : Pairs all copies i k ms) where
    -- j is the place before, r says whether its line is the last copy that waits, and that mark is written
    pub pairs_turn : (j : ℕ) → i ≡ j + 1 → j < length all → j < length ms → (r : Bool) → r ≡ is_last copies k (get_or all j [])
        → (k' : ℕ) → k' ≡ lower r k → (ms' : List ℕ) → ms' ≡ set ms j (bump r 0) → Pairs all copies j k' ms'
    unfolding Pairs waiting paired
    pairs_turn j e a b r q k' c ms' m =
        let s : i ≡ suc j = omega arith in
        let w : k ≡ waiting (drop (suc j) all) copies = rw (← s) p.0 in
        let t : drop (suc j) ms ≡ paired (drop (suc j) all) copies = rw (← s) p.1 in
        (c ∙ rw (drop-cons all j [] a, ← w, ← q), rw (m, drop_set ms j (bump r 0) b, t, drop-cons all j [] a, ← w, ← q))

    pub pairs_waiting : i ≡ 0 → k ≡ waiting all copies
    unfolding Pairs
    pairs_waiting e = p.0 ∙ rw e

    pub pairs_marks : i ≡ 0 → ms ≡ paired all copies
    unfolding Pairs
    pairs_marks e = let t = p.1 in rw e at t

-- the count as the code has it
pub lower_hit : (k : ℕ) → lower true k ≡ k - 1
unfolding lower
lower_hit zero = omega arith
lower_hit (suc k) = omega arith

pub lower_miss : (k : ℕ) → lower false k ≡ k
unfolding lower
lower_miss k = refl

-- where no copy waits none is the last, and else it is the one before the place k
pub last_none : (copies : List (List ℕ)) (k : ℕ) (t : List ℕ) → k ≡ 0 → is_last copies k t ≡ false
unfolding is_last
last_none copies k t e = rw e

pub last_some : (copies : List (List ℕ)) (k : ℕ) (t : List ℕ) → 0 < k → is_last copies k t ≡ eqs t (get_or copies (k - 1) [])
unfolding is_last
last_some copies zero t h = absurd (omega arith)
last_some copies (suc k) t h = let e : suc k - 1 ≡ k = omega arith in rw e
