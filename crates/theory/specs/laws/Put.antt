-- Laws of one part of a block replaced by another of its width. Assumes nothing.
use Rattle.std.specs.Prelude.{◌≡◌, set}
use Rattle.std.proofs.Math.Path.{ap}
use Rattle.std.proofs.Common.{◌∙◌, zero-mul, zero-add, length-append, length-drop, length-take-le, take-add, take_at, drop_at}
use mathlib.Core.List.{List, [], ◌∷◌, ◌++◌, append_assoc}
use Prim.Native.Nat.{ℕ, zero, suc, ◌+◌, ◌-◌, ◌*◌, ◌≤◌, ◌<◌}
use native.Mathlib.Omega.{arith}
use Rattle.std.proofs.Math.Nat.{add-sub_cancel_left}
use Rattle.std.proofs.Math.ListN.{length, take, drop, length-take}
use Rattle.std.proofs.Math.Seq.{drop-append-add, drop-drop}
use Rattle.std.proofs.lemmas.List.{set_at}
use Rattle.theory.specs.Parts.{chop, part_at}
use Rattle.theory.specs.laws.Parts.{part_fits, length_chop}
use Rattle.theory.specs.Each.{Each}
use Rattle.theory.specs.Join.{flat}
use Rattle.theory.specs.laws.Join.{length_flat, chop_flat, flat_chop, chop_snoc}
use Rattle.theory.specs.Put.{put_part}

pub put_ap : (w i : ℕ) {x y : List ℕ} (b : List ℕ) → x ≡ y → put_part w i x b ≡ put_part w i y b
put_ap w i b e = ap (λ (z : List ℕ). put_part w i z b) e

-- a part lent and returned, as the borrow checker has it; y is what came back
pub put_lent : (w i : ℕ) (x y b : List ℕ) → y ≡ x → take (i * w) b ++ (y ++ drop (i * w + w - i * w) (drop (i * w) b)) ≡ put_part w i x b
unfolding put_part
put_lent w i x y b e = rw (add-sub_cancel_left (i * w) w, e, drop-drop)

module _ (w i : ℕ) (x b : List ℕ) (fits : i * w + w ≤ length b) (wide : length x ≡ w) where
  pub length_put : length (put_part w i x b) ≡ length b
  unfolding put_part
  length_put = simp (length-append, length-take, length-drop) (omega arith)

  before : length (take (i * w) b) ≡ i * w
  before = length-take-le (i * w) b (omega arith)

  -- and so is what lies behind it
  pub drop_put : (m : ℕ) → i * w + w ≤ m → drop m (put_part w i x b) ≡ drop m b
  unfolding put_part
  drop_put m h =
      let a : List ℕ = take (i * w) b ++ x in
      let d : List ℕ = drop (i * w + w) b in
      let e : m ≡ length a + (m - (i * w + w)) = simp (length-append, before, wide) (omega arith) in
      let g : i * w + w + (m - (i * w + w)) ≡ m = omega arith in
      rw (← append_assoc (take (i * w) b) x d)
      (ap (λ (n : ℕ). drop n (a ++ d)) e ∙ drop-append-add a d (m - (i * w + w)) ∙ drop-drop (m - (i * w + w)) (i * w + w) b ∙ ap (λ (n : ℕ). drop n b) g)

-- the parts, one of them replaced
pub chop_put : (w n i : ℕ) (x b : List ℕ) → i < n → n * w ≤ length b → length x ≡ w → chop w n (put_part w i x b) ≡ set (chop w n b) i x
unfolding chop put_part
chop_put w zero i x b h k l = absurd (omega arith)
chop_put w (suc n) zero x b h k l = rw (zero-mul w, zero-add w, take_at x (drop w b) w l, drop_at x (drop w b) w l)
chop_put w (suc n) (suc i) x b h k l =
    let e : suc i * w ≡ w + i * w = omega arith in
    let g : suc i * w + w ≡ w + (i * w + w) = omega arith in
    let p : length (take w b) ≡ w = length-take-le w b (omega arith) in
    let q : n * w ≤ length (drop w b) = simp length-drop (omega arith) in
    let t : List ℕ = x ++ drop (i * w + w) (drop w b) in
    rw (
      g,
      e,
      take-add w (i * w) b,
      ← drop-drop (i * w + w) w b,
      append_assoc (take w b) (take (i * w) (drop w b)) t,
      take_at (take w b) (take (i * w) (drop w b) ++ t) w p,
      drop_at (take w b) (take (i * w) (drop w b) ++ t) w p,
      chop_put w n i x (drop w b) (omega arith) q l,
    )

module _ (w i : ℕ) (x b : List ℕ) (fits : i * w + w ≤ length b) (wide : length x ≡ w) where
  -- the first i parts are as they were, and x is the next
  pub chop_push : chop w (i + 1) (put_part w i x b) ≡ chop w i b ++ (x ∷ [])
  chop_push =
      rw (chop_put w (i + 1) i x b (omega arith) (omega arith) wide, chop_snoc w i b)
      (set_at (chop w i b) (part_at w i b) [] x i (length_chop w i b))

-- the same of parts joined
pub flat_set : (w i : ℕ) (x : List ℕ) {R : List (List ℕ)} → Each (λ r. length r ≡ w) R → i < length R → length x ≡ w → flat (set R i x) ≡ put_part w i x (flat R)
flat_set w i x {R} a h l =
    let n : ℕ = length R in
    let e : length (flat R) ≡ n * w = length_flat w a in
    let f : i * w + w ≤ length (flat R) = part_fits w n i (length (flat R)) (omega arith) h in
    let g : chop w n (put_part w i x (flat R)) ≡ set R i x = chop_put w n i x (flat R) h (omega arith) l ∙ ap (λ (S : List (List ℕ)). set S i x) (chop_flat w a) in
    rw (← g) (flat_chop w n (put_part w i x (flat R)) (length_put w i x (flat R) f l ∙ e))
