-- A turn over the slots, and all of them. Assumes nothing.
use mathlib.Core.Path.{◌≡◌, refl, sym, ◌∙◌}
use mathlib.Core.Bool.{true, false}
use mathlib.Core.List.{List, ◌++◌, append_assoc}
use Prim.Native.Nat.{ℕ, zero, suc, ◌+◌, ◌-◌, ◌*◌, ◌/◌, ◌≤◌}
use native.Mathlib.Omega.{arith}
use native.Mathlib.Numerals.{add-one}
use native.Mathlib.Nat.{mul-le-mul_right, mul-sub, mul_comm, div-mul-le_self}
use Rattle.std.proofs.Common.{take-append-drop, drop-drop, length-take-le}
use Rattle.std.proofs.Math.Seq.{paste}
use Rattle.std.proofs.lemmas.List.{replicate-append-replicate}
use Rattle.std.proofs.lemmas.List.Edits.{take-paste, drop-paste}
use Rattle.std.specs.List.{copy_within}
use lib.Dec.{eqb}
use lib.ListN.{length, take, drop, replicate, length-drop}
use borrow.Author.Tests.{ne_eqb}
use Rattle.theory.specs.Count.{bump}
use Rattle.theory.specs.Join.{flat}
use Rattle.theory.specs.laws.Join.{flat_append, flat_parts}
use Rattle.theory.specs.Pad.{free, pad}
use Rattle.theory.specs.Parts.{chop, part_at}
use Rattle.theory.specs.Pick.{good, pick}
use Rattle.theory.specs.Put.{put_part}
use Rattle.theory.specs.laws.CloseUp.{Closing, moved, closing_start, closing_turn, closing_count}
use Rattle.closing.specs.Closing.{kept, closed_up}
use Rattle.closing.specs.laws.Closing.{stays, kept_start, kept_next}

pub good_is : (m : ℕ) → eqb m 0 ≡ good m
unfolding good
good_is zero = refl
good_is (suc m) = ne_eqb (suc m) 0 (λ e. absurd (omega arith))

-- a slot moved, as it is written
pub moved_within : (w i k n : ℕ) (b : List ℕ) → i * w + w ≤ length b → k ≤ i → n ≡ i * w + w → copy_within b (i * w) n (k * w) ≡ put_part w k (part_at w i b) b
unfolding put_part part_at
moved_within w i k n b h l e =
    let o : k * w ≤ i * w = mul-le-mul_right w l in
    let s : List ℕ = drop (i * w) b in
    let z : n - i * w ≡ w = omega arith in
    let f : w ≤ length s = simp length-drop (omega arith) in
    rw z
    (sym (take-append-drop (k * w + w) (paste b (k * w) s w))
    ∙ rw (take-paste b (k * w) s w (omega arith) f, drop-paste b (k * w) s w (omega arith) f) (append_assoc (take (k * w) b) (take w s) (drop (k * w + w) b)))

-- a slot moved to where it is
pub moved_nowhere : (w i k : ℕ) (b : List ℕ) → k ≡ i → b ≡ put_part w k (part_at w i b) b
unfolding put_part part_at
moved_nowhere w i k b e = rw e (sym (rw (← drop-drop w (i * w) b, take-append-drop w (drop (i * w) b)) (take-append-drop (i * w) b)))

-- the free slots behind those that stay
flat_free : (w m : ℕ) → flat (replicate m (free w)) ≡ replicate (m * w) 0
unfolding flat free
flat_free w zero = let e : 0 * w ≡ 0 = omega arith in rw e refl
flat_free w (suc m) = let e : suc m * w ≡ w + m * w = omega arith in rw (e, flat_free w m, replicate-append-replicate {A = ℕ} w (m * w) 0) refl

module _ (w : ℕ) (marks b₀ : List ℕ) where
  pub closes_start : Closing w (pick good marks (chop w 0 b₀)) b₀ b₀ 0 0
  closes_start = rw (kept_start w marks b₀) (closing_start w b₀)

  module _ (b : List ℕ) (i k : ℕ) (c : Closing w (pick good marks (chop w i b₀)) b₀ b i k) (f : i * w + w ≤ length b₀) where
    -- a slot that stays, as it was moved
    pub stays_on : stays marks i ≡ true → (b' : List ℕ) → b' ≡ put_part w k (part_at w i b) b → Closing w (pick good marks (chop w (i + 1) b₀)) b₀ b' (i + 1) (k + 1)
    unfolding moved bump
    stays_on s b' e = rw (kept_next w marks b₀ i, s) (closing_turn w (pick good marks (chop w i b₀)) b₀ b i k c f true b' (k + 1) e (add-one k))

    -- one that goes is left where it is
    pub goes_on : stays marks i ≡ false → Closing w (pick good marks (chop w (i + 1) b₀)) b₀ b (i + 1) k
    unfolding moved bump
    goes_on s = rw (kept_next w marks b₀ i, s) (closing_turn w (pick good marks (chop w i b₀)) b₀ b i k c f false b k refl refl)

  -- what is free behind those that stay is written at once
  pub closed : (b₁ : List ℕ) (n k : ℕ) → n ≡ length b₀ / w → Closing w (pick good marks (chop w n b₀)) b₀ b₁ n k
      → (y : List ℕ) → y ≡ replicate (length (take (n * w - k * w) (drop (k * w) b₁))) 0
      → (take (k * w) b₁ ++ (y ++ drop (n * w - k * w) (drop (k * w) b₁)) ≡ closed_up w marks b₀) × (k ≡ length (kept w marks b₀))
  unfolding closed_up kept pad
  closed b₁ n k e c y f =
      let xs : List (List ℕ) = pick good marks (chop w n b₀) in
      let z : k ≡ length xs = closing_count w xs b₀ b₁ n k c in
      let m : n * w - k * w ≡ (n - k) * w = rw (mul_comm n w, mul_comm k w, mul_comm (n - k) w) (sym (mul-sub w n k)) in
      let l : k * w ≤ n * w = mul-le-mul_right w c.behind in
      let h : n * w ≤ length b₁ = rw (e, c.same_size) (div-mul-le_self (length b₀) w) in
      let v : length (take (n * w - k * w) (drop (k * w) b₁)) ≡ n * w - k * w = length-take-le (n * w - k * w) (drop (k * w) b₁) (simp length-drop (omega arith)) in
      let t : k * w + (n * w - k * w) ≡ n * w = omega arith in
      let d : drop (n * w - k * w) (drop (k * w) b₁) ≡ drop (n * w) b₀ =
      drop-drop (n * w - k * w) (k * w) b₁ ∙ rw (t) c.ahead in
      let g : take (k * w) b₁ ≡ flat xs = sym (flat_parts w k b₁) ∙ rw c.kept refl in
      rw (← e) (rw (← z, flat_append xs (replicate (n - k) (free w)), f, v, d, g, m, ← flat_free w (n - k)) (sym (append_assoc (flat xs) (flat (replicate (n - k) (free w))) (drop (n * w) b₀))), z)
