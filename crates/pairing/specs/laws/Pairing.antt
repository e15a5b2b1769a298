-- Marks and verdicts: as many as lines, and the verdicts told from marks and reasons. Assumes nothing.
use Rattle.std.specs.Prelude.{◌≡◌, length}
use Rattle.std.proofs.Math.Path.{refl, ap}
use mathlib.Core.List.{List, [], ◌∷◌, ◌++◌, map}
use Prim.Native.Nat.{ℕ, zero, suc}
use Rattle.theory.specs.Count.{bump}
use Rattle.theory.specs.Keep.{onto}
use Rattle.theory.specs.Pick.{good, bad, pick}
use Rattle.pairing.specs.Pairing.{marks_from, marks, told}

-- the mark of a line with this verdict
unfoldable pub mark : ℕ → ℕ
mark v = bump (bad v) 0

pub length_told : (ms rs : List ℕ) → length (told ms rs) ≡ length ms
unfolding told
length_told [] rs = refl
length_told (zero ∷ ms) rs = ap suc (length_told ms rs)
length_told (suc m ∷ ms) [] = ap suc (length_told ms [])
length_told (suc m ∷ ms) (r ∷ rs) = ap suc (length_told ms rs)

module _ (all copies : List (List ℕ)) where
  length_from : (before ts : List (List ℕ)) → length (marks_from all copies before ts) ≡ length ts
  unfolding marks_from
  length_from before [] = refl
  length_from before (t ∷ ts) = ap suc (length_from (before ++ t ∷ []) ts)

  pub length_marks : length (marks all copies) ≡ length all
  unfolding marks
  length_marks = length_from [] all

-- a mark is a verdict as good or as bad as its own
pub bad_mark : (v : ℕ) → bad (mark v) ≡ bad v
unfolding bad mark bump
bad_mark zero = refl
bad_mark (suc v) = refl

pub pick_mark : {A : Type 0} (vs : List ℕ) (xs : List A) → pick bad (map mark vs) xs ≡ pick bad vs xs
unfolding pick
pick_mark [] xs = refl
pick_mark (v ∷ vs) [] = refl
pick_mark (v ∷ vs) (x ∷ xs) = rw (bad_mark v, pick_mark vs xs)

good_mark : (v : ℕ) → good (mark v) ≡ good v
unfolding good bad mark bump
good_mark zero = refl
good_mark (suc v) = refl

pub pick_marked : {A : Type 0} (vs : List ℕ) (xs : List A) → pick good (map mark vs) xs ≡ pick good vs xs
unfolding pick
pick_marked [] xs = refl
pick_marked (v ∷ vs) [] = refl
pick_marked (v ∷ vs) (x ∷ xs) = rw (good_mark v, pick_marked vs xs)

-- the marks and the reasons give the verdicts again
pub told_is : (vs : List ℕ) → told (map mark vs) (pick bad vs vs) ≡ vs
unfolding told mark bump bad pick onto
told_is [] = refl
told_is (zero ∷ vs) = ap (λ (us : List ℕ). 0 ∷ us) (told_is vs)
told_is (suc v ∷ vs) = ap (λ (us : List ℕ). suc v ∷ us) (told_is vs)
