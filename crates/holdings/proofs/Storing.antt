-- Laws of storing many records one after the other, which stand on those of one (`specs/laws/Storing`). Assumes nothing.
use Rattle.std.specs.Prelude.{◌≡◌, Bool, ℕ, ◌+◌, length}
use Rattle.std.proofs.Math.Path.{refl, ap}
use Rattle.std.proofs.Common.{sym, ◌∙◌, arith}
use Rattle.std.proofs.Math.Bool.{true, false, not}
use mathlib.Core.List.{List, [], ◌∷◌, ◌++◌, map, append_assoc, append-nil}
use Rattle.theory.specs.Same.{eqs}
use Rattle.theory.specs.Each.{Each, none, more}
use Rattle.theory.specs.laws.Each.{each_map}
use Rattle.theory.specs.Walk.{some}
use Rattle.theory.specs.laws.Count.{bump_add}
use Rattle.theory.specs.Keep.{sift}
use Rattle.theory.specs.laws.Keep.{length_onto}
use Rattle.theory.specs.Distinct.{distinct}
use Rattle.theory.specs.laws.Distinct.{distinct_head, distinct_tail}
use Rattle.columns.specs.Columns.{pan_of}
use Rattle.slots.specs.Search.{holds_pan, of_actor, held_by_another}
use Rattle.holdings.specs.Holdings.{stored, stored_all, others}
use Rattle.holdings.specs.Room.{is_new}
use Rattle.holdings.specs.laws.Storing.{stored_new, length_stored, held_other, apart, others_stored, free_stored}

-- as many more as are new
pub length_all : (xs R : List (List ℕ)) → distinct (map pan_of xs) ≡ true → length (stored_all R xs) ≡ length R + length (sift (is_new R) xs)
unfolding stored_all sift
length_all [] R d = omega arith
length_all (x ∷ xs) R d =
    let ih = length_all xs (stored x R) (distinct_tail (pan_of x) (map pan_of xs) d) in
    let a = apart x xs (distinct_head (pan_of x) (map pan_of xs) d) in
    ih ∙ rw (sift_same xs (each_map (λ y e. ap not (held_other (pan_of y) x R e)) a), length_stored x R, length_onto (is_new R x) x (sift (is_new R) xs))
    (bump_add (is_new R x) (length R) (length (sift (is_new R) xs)))
  where
    sift_same : {p q : List ℕ → Bool} (ys : List (List ℕ)) → Each (λ y. p y ≡ q y) ys → sift p ys ≡ sift q ys
    sift_same [] none = refl
    sift_same (y ∷ ys) (more h hs) = rw (h, sift_same ys hs)

-- all new: they come behind, in order
pub all_new : (xs R : List (List ℕ)) → distinct (map pan_of xs) ≡ true → Each (λ x. some (holds_pan (pan_of x)) R ≡ false) xs → stored_all R xs ≡ R ++ xs
unfolding stored_all
all_new [] R d a = sym (append-nil R)
all_new (x ∷ xs) R d (more h hs) =
    let k = all_new xs (stored x R) (distinct_tail (pan_of x) (map pan_of xs) d) (still xs hs (apart x xs (distinct_head (pan_of x) (map pan_of xs) d))) in
    k ∙ rw (stored_new x R h) (append_assoc R (x ∷ []) xs)
  where
    still : (ys : List (List ℕ)) → Each (λ y. some (holds_pan (pan_of y)) R ≡ false) ys → Each (λ y. eqs (pan_of x) (pan_of y) ≡ false) ys → Each (λ y. some (holds_pan (pan_of y)) (stored x R) ≡ false) ys
    still [] none none = none
    still (y ∷ ys) (more h hs) (more e es) = more (held_other (pan_of y) x R e ∙ h) (still ys hs es)

module _ (who : List ℕ) where
  -- lines of one actor, over records that no other holds, leave those of the others
  pub others_all : (xs R : List (List ℕ)) → Each (λ x. of_actor who x ≡ true) xs → Each (λ x. held_by_another (pan_of x) who R ≡ false) xs → others who (stored_all R xs) ≡ others who R
  unfolding stored_all
  others_all [] R none none = refl
  others_all (x ∷ xs) R (more o os) (more h hs) =
      others_all xs (stored x R) os (each_map (λ y k. free_stored who (pan_of y) x R o k) hs) ∙ others_stored who x R o h
