-- Laws of storing records one after the other: their number, their places, and whose they are. Assumes nothing.
use Rattle.std.specs.Prelude.{◌≡◌, Bool, ◌&&◌, ◌||◌, ℕ, suc, ◌+◌, ◌≤◌, ◌<◌, length, set}
use Rattle.std.proofs.Math.Path.{refl, ap}
use Rattle.std.proofs.Common.{◌∙◌, true≢false, arith}
use Rattle.std.proofs.Math.Bool.{true, false, not}
use mathlib.Core.List.{List, [], ◌∷◌, ◌++◌, map, append-nil}
use Rattle.theory.specs.laws.Truth.{and_none, or_left, or_right, or_both}
use Rattle.theory.specs.Same.{eqs, mem}
use Rattle.theory.specs.laws.Same.{eqs_true}
use Rattle.theory.specs.Each.{Each, none, more}
use Rattle.theory.specs.laws.Each.{each_map}
use Rattle.theory.specs.Walk.{some}
use Rattle.theory.specs.Count.{bump}
use Rattle.theory.specs.Keep.{onto, sift}
use Rattle.theory.specs.laws.Keep.{sift_append, sift_none, sift_inside}
use Rattle.theory.specs.Place.{place, place_on}
use Rattle.columns.specs.Columns.{pan_of}
use Rattle.slots.specs.Search.{holds_pan, place_of, of_actor, holds_foreign, held_by_another}
use Rattle.holdings.specs.Holdings.{stored_on, stored, stored_all, others}
use Rattle.holdings.specs.Room.{is_new}

-- ---- by its place

-- held: it is replaced
pub stored_held : (x : List ℕ) (R : List (List ℕ)) → place_of (pan_of x) R < length R → stored x R ≡ set R (place_of (pan_of x) R) x
unfolding stored stored_on place_of place place_on
stored_held x [] h = absurd (omega arith)
stored_held x (r ∷ R) h = go (holds_pan (pan_of x) r) h (stored_held x R)
  where
    go : (b : Bool) → place_on b (place (holds_pan (pan_of x)) R) < suc (length R) → (place (holds_pan (pan_of x)) R < length R → stored x R ≡ set R (place (holds_pan (pan_of x)) R) x)
        → stored_on b x r R (stored x R) ≡ set (r ∷ R) (place_on b (place (holds_pan (pan_of x)) R)) x
    go true k ih = refl
    go false k ih = ap (λ (S : List (List ℕ)). r ∷ S) (ih (omega arith))

-- new: it comes behind
pub stored_new : (x : List ℕ) (R : List (List ℕ)) → some (holds_pan (pan_of x)) R ≡ false → stored x R ≡ R ++ x ∷ []
unfolding stored stored_on some
stored_new x [] h = refl
stored_new x (r ∷ R) h =
    rw (or_left (holds_pan (pan_of x) r) (some (holds_pan (pan_of x)) R) h)
    (ap (λ (S : List (List ℕ)). r ∷ S) (stored_new x R (or_right (holds_pan (pan_of x) r) (some (holds_pan (pan_of x)) R) h)))

-- ---- their number

pub length_stored : (x : List ℕ) (R : List (List ℕ)) → length (stored x R) ≡ bump (is_new R x) (length R)
unfolding stored stored_on some bump
length_stored x [] = refl
length_stored x (r ∷ R) = go (holds_pan (pan_of x) r) (some (holds_pan (pan_of x)) R) (length_stored x R)
  where
    go : (b s : Bool) → length (stored x R) ≡ bump (not s) (length R) → length (stored_on b x r R (stored x R)) ≡ bump (not (b || s)) (suc (length R))
    go true s ih = refl
    go false true ih = ap suc ih
    go false false ih = ap suc ih

pub stored_grows : (x : List ℕ) (R : List (List ℕ)) → length R ≤ length (stored x R)
unfolding stored stored_on
stored_grows x [] = omega arith
stored_grows x (r ∷ R) = go (holds_pan (pan_of x) r) (stored_grows x R)
  where
    go : (b : Bool) → length R ≤ length (stored x R) → suc (length R) ≤ length (stored_on b x r R (stored x R))
    go true ih = omega arith
    go false ih = omega arith

pub all_grows : (xs R : List (List ℕ)) → length R ≤ length (stored_all R xs)
unfolding stored_all
all_grows [] R = omega arith
all_grows (x ∷ xs) R = omega (arith, stored_grows x R, all_grows xs (stored x R))

-- by no more than one each
stored_most : (x : List ℕ) (R : List (List ℕ)) → length (stored x R) ≤ suc (length R)
unfolding stored stored_on
stored_most x [] = omega arith
stored_most x (r ∷ R) = go (holds_pan (pan_of x) r) (stored_most x R)
  where
    go : (b : Bool) → length (stored x R) ≤ suc (length R) → length (stored_on b x r R (stored x R)) ≤ suc (suc (length R))
    go true ih = omega arith
    go false ih = omega arith

pub all_most : (xs R : List (List ℕ)) → length (stored_all R xs) ≤ length R + length xs
unfolding stored_all
all_most [] R = omega arith
all_most (x ∷ xs) R = omega (arith, stored_most x R, all_most xs (stored x R))

-- another PAN is held after as before
pub held_other : (p x : List ℕ) (R : List (List ℕ)) → eqs (pan_of x) p ≡ false → some (holds_pan p) (stored x R) ≡ some (holds_pan p) R
unfolding stored stored_on some holds_pan
held_other p x [] h = rw h
held_other p x (r ∷ R) h = go (holds_pan (pan_of x) r) refl (held_other p x R h)
  where
    go : (b : Bool) → eqs (pan_of r) (pan_of x) ≡ b → some (holds_pan p) (stored x R) ≡ some (holds_pan p) R
        → some (holds_pan p) (stored_on b x r R (stored x R)) ≡ eqs (pan_of r) p || some (holds_pan p) R
    go true e ih = rw (h, eqs_true (pan_of r) (pan_of x) e, h)
    go false e ih = rw ih

-- and in its place
pub place_other : (p x : List ℕ) (R : List (List ℕ)) → eqs (pan_of x) p ≡ false → place_of p R < length R → place_of p (stored x R) ≡ place_of p R
unfolding stored stored_on place_of place place_on holds_pan
place_other p x [] h l = absurd (omega arith)
place_other p x (r ∷ R) h l = go (holds_pan (pan_of x) r) refl (place_other p x R h)
  where
    -- m is the place behind r, and k what it was
    behind : (c : Bool) (m k n : ℕ) → place_on c k < suc n → (k < n → m ≡ k) → place_on c m ≡ place_on c k
    behind true m k n j ih = refl
    behind false m k n j ih = ap suc (ih (omega arith))

    go : (b : Bool) → eqs (pan_of r) (pan_of x) ≡ b → (place (holds_pan p) R < length R → place (holds_pan p) (stored x R) ≡ place (holds_pan p) R)
        → place (holds_pan p) (stored_on b x r R (stored x R)) ≡ place_on (eqs (pan_of r) p) (place (holds_pan p) R)
    go true e ih = rw (h, eqs_true (pan_of r) (pan_of x) e, h)
    go false e ih = behind (eqs (pan_of r) p) _ _ (length R) l ih

-- those with another PAN
pub apart : (x : List ℕ) (xs : List (List ℕ)) → mem (pan_of x) (map pan_of xs) ≡ false → Each (λ y. eqs (pan_of x) (pan_of y) ≡ false) xs
unfolding mem
apart x [] h = none
apart x (y ∷ xs) h = more (or_left (eqs (pan_of x) (pan_of y)) (mem (pan_of x) (map pan_of xs)) h) (apart x xs (or_right (eqs (pan_of x) (pan_of y)) (mem (pan_of x) (map pan_of xs)) h))

-- ---- whose they are

module _ (who : List ℕ) where
  -- an actor's record in place of one of his leaves those of the others
  pub others_stored : (x : List ℕ) (R : List (List ℕ)) → of_actor who x ≡ true → held_by_another (pan_of x) who R ≡ false → others who (stored x R) ≡ others who R
  unfolding stored stored_on others sift onto held_by_another some holds_foreign
  others_stored x [] o h = rw o
  others_stored x (r ∷ R) o h =
      go (holds_pan (pan_of x) r) (of_actor who r) (or_left (holds_pan (pan_of x) r && not (of_actor who r)) (some (holds_foreign (pan_of x) who) R) h)
      (others_stored x R o (or_right (holds_pan (pan_of x) r && not (of_actor who r)) (some (holds_foreign (pan_of x) who) R) h)) refl
    where
      go : (b s : Bool) → b && not s ≡ false → others who (stored x R) ≡ others who R → of_actor who r ≡ s
          → others who (stored_on b x r R (stored x R)) ≡ onto (not s) r (others who R)
      go true true k ih e = rw o
      go true false k ih e = absurd (true≢false k)
      go false s k ih e = rw (e, ih)

  -- what no other actor holds, none holds after
  pub free_stored : (p x : List ℕ) (R : List (List ℕ)) → of_actor who x ≡ true → held_by_another p who R ≡ false → held_by_another p who (stored x R) ≡ false
  unfolding stored stored_on held_by_another some holds_foreign
  free_stored p x [] o h = rw o (or_both (holds_pan p x && false) false (and_none (holds_pan p x) false refl) refl)
  free_stored p x (r ∷ R) o h =
      go (holds_pan (pan_of x) r)
      (free_stored p x R o (or_right (holds_foreign p who r) (some (holds_foreign p who) R) h))
      (or_left (holds_foreign p who r) (some (holds_foreign p who) R) h)
      (or_right (holds_foreign p who r) (some (holds_foreign p who) R) h)
    where
      go : (b : Bool) → some (holds_foreign p who) (stored x R) ≡ false → holds_foreign p who r ≡ false → some (holds_foreign p who) R ≡ false
          → some (holds_foreign p who) (stored_on b x r R (stored x R)) ≡ false
      go true ih h₁ h₂ = rw o (or_both (holds_pan p x && false) (some (holds_foreign p who) R) (and_none (holds_pan p x) false refl) h₂)
      go false ih h₁ h₂ = or_both (holds_foreign p who r) (some (holds_foreign p who) (stored x R)) h₁ ih

  pub others_replaced : (xs R : List (List ℕ)) → Each (λ x. of_actor who x ≡ true) xs → others who (others who R ++ xs) ≡ others who R
  unfolding others
  others_replaced xs R o =
      sift_append (λ r. not (of_actor who r)) (others who R) xs
      ∙ rw (sift_none (λ r. not (of_actor who r)) (each_map (λ x e. ap not e) o), append-nil (sift (λ r. not (of_actor who r)) (sift (λ r. not (of_actor who r)) R)))
      (sift_inside (λ r. not (of_actor who r)) (λ r. not (of_actor who r)) (λ x e. e) R)

-- among records that are only this actor's no other actor holds a PAN
pub own_free : (who pan : List ℕ) {R : List (List ℕ)} → Each (λ r. of_actor who r ≡ true) R → held_by_another pan who R ≡ false
unfolding held_by_another some holds_foreign
own_free who pan none = refl
own_free who pan (more {x = r} h hs) = or_both _ _ (and_none (holds_pan pan r) (not (of_actor who r)) (ap not h)) (own_free who pan hs)

-- a PAN that no other actor holds is new to the records of the others
pub new_others : (who p : List ℕ) (R : List (List ℕ)) → held_by_another p who R ≡ false → some (holds_pan p) (others who R) ≡ false
unfolding others sift onto held_by_another some holds_foreign
new_others who p [] h = refl
new_others who p (r ∷ R) h =
    go (of_actor who r) (or_left (holds_pan p r && not (of_actor who r)) (some (holds_foreign p who) R) h)
    (new_others who p R (or_right (holds_pan p r && not (of_actor who r)) (some (holds_foreign p who) R) h))
  where
    go : (s : Bool) → holds_pan p r && not s ≡ false → some (holds_pan p) (others who R) ≡ false → some (holds_pan p) (onto (not s) r (others who R)) ≡ false
    go true k ih = ih
    go false k ih = or_both (holds_pan p r) (some (holds_pan p) (others who R)) (alone (holds_pan p r) k) ih
      where
        alone : (b : Bool) → b && true ≡ false → b ≡ false
        alone true e = e
        alone false e = refl
