-- What each record has once records are stored: under a PAN of theirs what they have, under any other what was held has.
-- Assumes nothing.
use Rattle.std.specs.Prelude.{◌≡◌, refl, Bool, true, false, ◌||◌, List, [], ◌∷◌, map, ℕ, ◌<◌, length}
use Rattle.std.proofs.Common.{sym, ◌∙◌, ltb-true}
use Rattle.std.proofs.lemmas.List.{map-append}
use Rattle.std.proofs.Math.Seq.{map-set_same}
use Rattle.theory.specs.Same.{eqs, mem}
use Rattle.theory.specs.laws.Same.{eqs_true, eqs_sym}
use Rattle.theory.specs.Each.{Each, none, more}
use Rattle.theory.specs.laws.Each.{each_map}
use Rattle.theory.specs.Walk.{some}
use Rattle.theory.specs.Place.{place}
use Rattle.theory.specs.laws.Place.{place_hit, place_some}
use Rattle.theory.specs.laws.Scan.{some_key}
use Rattle.theory.specs.Distinct.{distinct}
use Rattle.theory.specs.laws.Distinct.{distinct_head, distinct_tail, distinct_append}
use Rattle.columns.specs.Columns.{pan_of}
use Rattle.slots.specs.Search.{holds_pan, place_of}
use Rattle.holdings.specs.Holdings.{stored_on, stored, stored_all}
use Rattle.holdings.specs.laws.Storing.{stored_held, stored_new, apart}

-- no two records have one PAN, where none had before
distinct_stored : (x : List ℕ) (R : List (List ℕ)) → distinct (map pan_of R) ≡ true → distinct (map pan_of (stored x R)) ≡ true
unfolding place_of holds_pan distinct mem
distinct_stored x R d = go (some (holds_pan (pan_of x)) R) refl
  where
    go : (b : Bool) → some (holds_pan (pan_of x)) R ≡ b → distinct (map pan_of (stored x R)) ≡ true
    go true e =
        let i : ℕ = place (holds_pan (pan_of x)) R in
        let k : i < length R = ltb-true i (length R) (sym (place_some (holds_pan (pan_of x)) R) ∙ e) in
        rw (stored_held x R k, map-set_same pan_of R i x [] (sym (eqs_true _ _ (place_hit (holds_pan (pan_of x)) R k)))) d
    go false e =
        rw (stored_new x R e, map-append pan_of R (x ∷ []))
        (distinct_append (map pan_of R) (pan_of x ∷ []) d refl (more (sym (some_key pan_of (pan_of x) R) ∙ e) none))

each_stored : (q : List ℕ → Type 0) (x : List ℕ) (R : List (List ℕ)) → distinct (map pan_of R) ≡ true → q x → Each (λ y. eqs (pan_of y) (pan_of x) ≡ false → q y) R → Each q (stored x R)
unfolding stored stored_on holds_pan
each_stored q x [] d k none = more k none
each_stored q x (r ∷ R) d k (more h hs) = go (eqs (pan_of r) (pan_of x)) refl (each_stored q x R (distinct_tail (pan_of r) (map pan_of R) d) k hs)
  where
    go : (b : Bool) → eqs (pan_of r) (pan_of x) ≡ b → Each q (stored x R) → Each q (stored_on b x r R (stored x R))
    go true e ks = more k (behind (apart r R (distinct_head (pan_of r) (map pan_of R) d)) hs)
      where
        behind : {ys : List (List ℕ)} → Each (λ y. eqs (pan_of r) (pan_of y) ≡ false) ys → Each (λ y. eqs (pan_of y) (pan_of x) ≡ false → q y) ys → Each q ys
        behind none none = none
        behind (more {x = y} h hs) (more k ks) = more (k (eqs_sym (pan_of y) (pan_of x) ∙ rw (← eqs_true (pan_of r) (pan_of x) e) h)) (behind hs ks)
    go false e ks = more (h e) ks

-- what each of them has, and each that was held under another PAN, each has
pub each_all : (q : List ℕ → Type 0) (xs R : List (List ℕ)) → distinct (map pan_of R) ≡ true → Each q xs → Each (λ y. mem (pan_of y) (map pan_of xs) ≡ false → q y) R → Each q (stored_all R xs)
unfolding stored_all mem
each_all q [] R d none hs = each_map (λ y h. h refl) hs
each_all q (x ∷ xs) R d (more k ks) hs =
    each_all q xs (stored x R) (distinct_stored x R d) ks
    (each_stored (λ y. mem (pan_of y) (map pan_of xs) ≡ false → q y) x R d (λ _. k)
    (each_map (λ y h e m. h (neither e m)) hs))
  where
    neither : {a b : Bool} → a ≡ false → b ≡ false → a || b ≡ false
    neither e m = rw (e, m)
