-- Laws of a block as parts of one width, and of a walk over them. Assumes nothing.
use Rattle.std.specs.Prelude.{◌≡◌, refl, List, [], ◌∷◌, length, take, drop}
use Rattle.std.proofs.Common.{ap, mul-le-mul_right, div-add-mod', length-take, length-drop, drop-drop}
use Prim.Native.Nat.{ℕ, zero, suc, ◌+◌, ◌-◌, ◌*◌, ◌/◌, ◌≤◌, ◌<◌}
use native.Mathlib.Omega.{arith}
use Rattle.std.proofs.Math.Nat.{add-sub_cancel_left}
use Rattle.theory.specs.Parts.{chop, part_at}

-- the parts from place i to place n, as a walk has them
unfoldable pub parts_from : ℕ → ℕ → ℕ → List ℕ → List (List ℕ)
parts_from w n i b = chop w (n - i) (drop (i * w) b)

module _ (w n : ℕ) (b : List ℕ) where
  pub parts_start : chop w n b ≡ parts_from w n 0 b
  unfolding parts_from
  parts_start = let e : 0 * w ≡ 0 = omega arith in let f : n - 0 ≡ n = omega arith in rw (e, f)

  pub parts_step : (i : ℕ) → i < n → parts_from w n i b ≡ part_at w i b ∷ parts_from w n (i + 1) b
  unfolding parts_from chop part_at
  parts_step i h =
      let e : n - i ≡ suc (n - (i + 1)) = omega arith in
      let f : (i + 1) * w ≡ i * w + w = omega arith in rw (e, f, drop-drop)

  pub parts_end : (i : ℕ) → n ≤ i → parts_from w n i b ≡ []
  unfolding parts_from chop
  parts_end i h = let e : n - i ≡ 0 = omega arith in rw e

-- a part lies within the block
pub part_fits : (w n i m : ℕ) → n * w ≤ m → i < n → i * w + w ≤ m
part_fits w n i m h l = omega (arith, mul-le-mul_right w l)

-- so does each of the parts that a block has
pub whole_fits : (w i m : ℕ) → i < m / w → i * w + w ≤ m
whole_fits w i m h = part_fits w (m / w) i m (omega (arith, div-add-mod' m w)) h

-- a part as the code lends it
pub part_is : (w i : ℕ) (b : List ℕ) → take (i * w + w - i * w) (drop (i * w) b) ≡ part_at w i b
unfolding part_at
part_is w i b = rw (add-sub_cancel_left (i * w) w)

pub length_part : (w i : ℕ) (b : List ℕ) → i * w + w ≤ length b → length (part_at w i b) ≡ w
unfolding part_at
length_part w i b h = simp (length-take, length-drop) (omega arith)

pub length_chop : (w n : ℕ) (b : List ℕ) → length (chop w n b) ≡ n
unfolding chop
length_chop w zero b = refl
length_chop w (suc n) b = ap suc (length_chop w n (drop w b))
