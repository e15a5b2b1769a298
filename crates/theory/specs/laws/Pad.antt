-- Laws of records in front and free parts behind them, n parts in all; and of the records read back from the bytes.
-- Assumes nothing.
use Rattle.std.specs.Prelude.{◌≡◌, Bool, true, false, drop, set}
use Rattle.std.proofs.Math.Path.{refl, sym}
use Rattle.std.proofs.Common.{ap, ◌∙◌, drop_at}
use mathlib.Core.List.{List, [], ◌∷◌, ◌++◌, append_assoc, append-nil}
use Prim.Native.Nat.{ℕ, zero, suc, ◌+◌, ◌-◌, ◌*◌, ◌≤◌, ◌<◌}
use native.Mathlib.Omega.{arith}
use Rattle.std.proofs.Math.Nat.{mul-le-mul_right}
use Rattle.std.proofs.Math.ListN.{length, replicate, length-append, length-set, length-replicate, replicate-append-replicate}
use Rattle.std.proofs.lemmas.List.{set-append_left}
use Rattle.std.proofs.Math.Seq.{set_at, take_at}
use Rattle.theory.specs.Parts.{chop}
use Rattle.theory.specs.Each.{Each, none, more}
use Rattle.theory.specs.laws.Each.{each_append, each_replicate}
use Rattle.theory.specs.Join.{flat}
use Rattle.theory.specs.laws.Join.{flat_append, length_flat, chop_flat, chop_take}
use Rattle.theory.specs.Put.{put_part}
use Rattle.theory.specs.laws.Put.{flat_set}
use Rattle.theory.specs.Pad.{free, pad, front_on, front}

pub length_free : (w : ℕ) → length (free w) ≡ w
unfolding free
length_free w = length-replicate {A = ℕ} w 0

module _ (w n : ℕ) (R : List (List ℕ)) where
  pub length_pad : length R ≤ n → length (pad w n R) ≡ n
  unfolding pad
  length_pad h = rw (length-append R (replicate (n - length R) (free w)), length-replicate (n - length R) (free w)) (omega arith)

  -- more free parts
  pub pad_more : (m : ℕ) → length R ≤ m → m ≤ n → pad w m R ++ replicate (n - m) (free w) ≡ pad w n R
  unfolding pad
  pad_more m h l =
      let e : m - length R + (n - m) ≡ n - length R = omega arith in
      rw (append_assoc R (replicate (m - length R) (free w)) (replicate (n - m) (free w)), replicate-append-replicate (m - length R) (n - m) (free w), e)

module _ {A : Type 0} (p : A → Bool) where
  -- behind those that all pass, the front goes on
  pub front_append : {xs : List A} (ys : List A) → Each (λ x. p x ≡ true) xs → front p (xs ++ ys) ≡ xs ++ front p ys
  unfolding front front_on
  front_append ys none = refl
  front_append ys (more h hs) = rw (h, front_append ys hs)

  front_replicate : (x : A) (k : ℕ) → p x ≡ false → front p (replicate k x) ≡ []
  unfolding front front_on
  front_replicate x zero h = refl
  front_replicate x (suc k) h = rw h

module _ (w n : ℕ) {R : List (List ℕ)} where
  pub each_pad : Each (λ r. length r ≡ w) R → Each (λ r. length r ≡ w) (pad w n R)
  unfolding pad
  each_pad h = each_append h (each_replicate (n - length R) (free w) (length_free w))

  -- the records are those that the test knows for used
  module _ (p : List ℕ → Bool) (f : p (free w) ≡ false) (u : Each (λ r. p r ≡ true) R) where
    pub front_pad : front p (pad w n R) ≡ R
    unfolding pad
    front_pad = front_append p (replicate (n - length R) (free w)) u ∙ rw (front_replicate p (free w) (n - length R) f) (append-nil R)

  -- ---- in bytes

  module _ (h : Each (λ r. length r ≡ w) R) where
    module _ (l : length R ≤ n) where
      pub length_flat_pad : length (flat (pad w n R)) ≡ n * w
      length_flat_pad = length_flat w (each_pad h) ∙ ap (λ (m : ℕ). m * w) (length_pad w n R l)

      pub chop_pad : chop w n (flat (pad w n R)) ≡ pad w n R
      chop_pad = rw (length_pad w n R l) at (chop_flat w (each_pad h))

      -- they are the first parts
      pub records_pad : chop w (length R) (flat (pad w n R)) ≡ R
      unfolding pad
      records_pad =
          let F : List (List ℕ) = replicate (n - length R) (free w) in
          let k : length R * w ≤ length (flat (pad w n R)) = omega (arith, length_flat_pad, mul-le-mul_right w l) in
          sym (chop_take w (length R) (flat (pad w n R)) k) ∙ rw (flat_append R F, take_at (flat R) (flat F) (length R * w) (length_flat w h)) (chop_flat w h)

      -- and what lies behind them is free
      pub rest_pad : drop (length R * w) (flat (pad w n R)) ≡ flat (replicate (n - length R) (free w))
      unfolding pad
      rest_pad = rw (flat_append R (replicate (n - length R) (free w))) (drop_at (flat R) (flat (replicate (n - length R) (free w))) (length R * w) (length_flat w h))

      -- a record written over another
      pub put_pad : (i : ℕ) (x : List ℕ) → i < length R → length x ≡ w → put_part w i x (flat (pad w n R)) ≡ flat (pad w n (set R i x))
      unfolding pad
      put_pad i x k e =
          sym (flat_set w i x (each_pad h) (omega (arith, length_pad w n R l)) e)
          ∙ rw (set-append_left R (replicate (n - length R) (free w)) i x k, length-set R i x)

    -- a record written into the first free part
    pub push_pad : (x : List ℕ) → length R < n → length x ≡ w → put_part w (length R) x (flat (pad w n R)) ≡ flat (pad w n (R ++ x ∷ []))
    unfolding pad
    push_pad x k e =
        let m : n - length R ≡ suc (n - (length R + 1)) = omega arith in
        sym (flat_set w (length R) x (each_pad h) (omega (arith, length_pad w n R (omega arith))) e)
        ∙ rw (m, set_at R (free w) (replicate (n - (length R + 1)) (free w)) x (length R) refl, length-append R (x ∷ []), append_assoc R (x ∷ []))
