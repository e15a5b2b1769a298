-- The values of a place, how many a run takes, and one written over its places from the last to the first, as the loops have
-- them. Assumes nothing.
use mathlib.Core.Path.{◌≡◌, sym, ap, ◌∙◌}
use mathlib.Core.List.{List, ◌++◌}
use Prim.Native.Nat.{ℕ, suc, ◌<◌, ◌≤◌, ◌+◌, ◌-◌, ◌/◌, ◌%◌}
use native.Mathlib.Omega.{arith}
use lib.ListN.{length, drop, set, length-set}
use lib.Seq.{drop-cons, drop-set-lt, get_or-set_same, append_snoc}
use Rattle.ranges.specs.Ranges.{base, lowest, valued}

-- ---- a value, from the right: the places from i on are written, and m is left

pub record Valuing (kind each first v n : ℕ) (run : List ℕ) (i m : ℕ) : Type 0 where
  pub within : i ≤ n
  pub size : length run ≡ n
  pub values : each ≡ base kind
  pub start : first ≡ lowest kind
  pub some : 1 ≤ each
  pub room : first + each ≤ 256
  pub whole : valued kind n v ≡ valued kind i m ++ drop i run

-- one place, at j
place_step : (kind : ℕ) (run : List ℕ) (j m : ℕ) → j < length run
    → valued kind (suc j) m ++ drop (suc j) run ≡ valued kind j (m / base kind) ++ drop j (set run j (lowest kind + m % base kind))
unfolding valued
place_step kind run j m h =
    let d : ℕ = lowest kind + m % base kind in
    let l : j < length (set run j d) = rw length-set h in
    append_snoc (valued kind j (m / base kind)) d (drop (suc j) run) ∙ rw (drop-cons (set run j d) j 0, get_or-set_same run j d, drop-set-lt (suc j) run j d (omega arith))

module _ (kind each first v n : ℕ) (run : List ℕ) (i m : ℕ) (w : Valuing kind each first v n run i m) where
  pub valuing_turn : 0 < i → Valuing kind each first v n (set run (i - 1) (first + m % each)) (i - 1) (m / each)
  valuing_turn h =
      let e : i ≡ suc (i - 1) = omega arith in
      let l : i - 1 < length run = omega (arith, w.within, w.size) in
      record {
        within = omega (arith, w.within);
        size = rw length-set w.size;
        values = w.values;
        start = w.start;
        some = w.some;
        room = w.room;
        whole = w.whole ∙ ap (λ (k : ℕ). valued kind k m ++ drop k run) e ∙ rw (w.values, w.start) (place_step kind run (i - 1) m l);
      }

  pub valuing_end : i ≤ 0 → run ≡ valued kind n v
  unfolding valued
  valuing_end h =
      let e : i ≡ 0 = omega arith in
      sym (w.whole ∙ ap (λ (k : ℕ). valued kind k m ++ drop k run) e)
