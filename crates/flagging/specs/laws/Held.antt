-- L11 by the place of a PAN: where no two records have one PAN, the first that has it decides. Assumes nothing.
use Rattle.std.specs.Prelude.{◌≡◌, refl, Bool, true, false, not, ◌&&◌, ◌||◌, List, [], ◌∷◌, map, ℕ, suc, ltb, length, get_or}
use Rattle.std.proofs.Common.{◌∙◌, arith, lt-ltb}
use Rattle.theory.specs.laws.Truth.{or_left, or_right, or_both, or_false}
use Rattle.theory.specs.Same.{eqs, mem}
use Rattle.theory.specs.laws.Same.{eqs_true, eqs_sym}
use Rattle.theory.specs.Walk.{some}
use Rattle.theory.specs.Distinct.{distinct}
use Rattle.theory.specs.laws.Distinct.{distinct_head, distinct_tail}
use Rattle.theory.specs.Place.{place, place_on}
use Rattle.theory.specs.laws.Place.{ltb_suc}
use Rattle.columns.specs.Columns.{pan_of}
use Rattle.slots.specs.Search.{holds_pan, place_of, of_actor, holds_foreign, held_by_another}

-- there is a record at this place, and it is another actor's
unfoldable pub foreign_at : List ℕ → List (List ℕ) → ℕ → Bool
foreign_at who R at = ltb at (length R) && not (of_actor who (get_or R at []))

-- a PAN that none has, none has under another actor
none_foreign : (pan who : List ℕ) (R : List (List ℕ)) → mem pan (map pan_of R) ≡ false → some (holds_foreign pan who) R ≡ false
unfolding mem some holds_foreign holds_pan
none_foreign pan who [] h = refl
none_foreign pan who (r ∷ R) h =
    let e : eqs (pan_of r) pan ≡ false = eqs_sym (pan_of r) pan ∙ or_left (eqs pan (pan_of r)) (mem pan (map pan_of R)) h in
    or_both (eqs (pan_of r) pan && not (of_actor who r)) (some (holds_foreign pan who) R) (rw e) (none_foreign pan who R (or_right (eqs pan (pan_of r)) (mem pan (map pan_of R)) h))

pub held_at : (pan who : List ℕ) (R : List (List ℕ)) → distinct (map pan_of R) ≡ true → held_by_another pan who R ≡ foreign_at who R (place_of pan R)
unfolding held_by_another foreign_at place_of some place place_on holds_foreign holds_pan
held_at pan who [] d = refl
held_at pan who (r ∷ R) d = go (holds_pan pan r) refl (held_at pan who R (distinct_tail (pan_of r) (map pan_of R) d))
  where
    go : (b : Bool) → holds_pan pan r ≡ b → some (holds_foreign pan who) R ≡ ltb (place (holds_pan pan) R) (length R) && not (of_actor who (get_or R (place (holds_pan pan) R) []))
        → (b && not (of_actor who r)) || some (holds_foreign pan who) R ≡ ltb (place_on b (place (holds_pan pan) R)) (suc (length R)) && not (of_actor who (get_or (r ∷ R) (place_on b (place (holds_pan pan) R)) []))
    go true e ih =
        let f : pan_of r ≡ pan = eqs_true (pan_of r) pan e in
        let n : some (holds_foreign pan who) R ≡ false = none_foreign pan who R (rw (← f) (distinct_head (pan_of r) (map pan_of R) d)) in
        rw (n, lt-ltb 0 (suc (length R)) (omega arith)) (or_false (not (of_actor who r)))
    go false e ih = ih ∙ rw (ltb_suc (place (holds_pan pan) R) (length R))
