-- Laws of lists of which no two are the same; where a list is of records, it is their keys that are asked. Assumes
-- nothing.
use Rattle.std.specs.Prelude.{◌≡◌, Bool, not, ◌&&◌, ℕ, zero, suc, ◌≤◌, ◌<◌, get_or}
use Rattle.std.proofs.Math.Path.{refl}
use Rattle.std.proofs.Common.{sym, ap, ◌∙◌, true≢false}
use Rattle.std.proofs.Math.Bool.{true, false}
use mathlib.Core.List.{List, [], ◌∷◌, ◌++◌, map}
use native.Mathlib.Omega.{arith}
use Rattle.std.proofs.Math.ListN.{length}
use Rattle.std.proofs.lemmas.Bool.{not-true}
use Rattle.theory.specs.laws.Truth.{and_left, and_right, and_none, or_left, or_right, or_both, or_true}
use Rattle.theory.specs.Same.{eqs, mem}
use Rattle.theory.specs.laws.Same.{eqs_refl, eqs_true, eqs_sym, mem_append}
use Rattle.theory.specs.Each.{Each, none, more}
use Rattle.theory.specs.laws.Each.{each_map}
use Rattle.theory.specs.Keep.{onto, sift}
use Rattle.theory.specs.laws.Keep.{map_onto, mem_onto}
use Rattle.theory.specs.Pick.{pick}
use Rattle.theory.specs.Distinct.{distinct}

-- the first is not among the rest
pub distinct_head : (x : List ℕ) (xs : List (List ℕ)) → distinct (x ∷ xs) ≡ true → mem x xs ≡ false
unfolding distinct
distinct_head x xs h = not-true (mem x xs) (and_left (not (mem x xs)) (distinct xs) h)

pub distinct_tail : (x : List ℕ) (xs : List (List ℕ)) → distinct (x ∷ xs) ≡ true → distinct xs ≡ true
unfolding distinct
distinct_tail x xs h = and_right (not (mem x xs)) (distinct xs) h

pub distinct_onto : (b : Bool) (x : List ℕ) (xs : List (List ℕ)) → (b ≡ true → mem x xs ≡ false) → distinct xs ≡ true → distinct (onto b x xs) ≡ true
unfolding onto distinct
distinct_onto true x xs g h = rw (g refl) h
distinct_onto false x xs g h = h

-- none of ys is x
not_among : (x : List ℕ) (xs : List (List ℕ)) {ys : List (List ℕ)} → Each (λ y. mem y (x ∷ xs) ≡ false) ys → mem x ys ≡ false
unfolding mem
not_among x xs none = refl
not_among x xs (more h hs) = or_both _ _ (eqs_sym x _ ∙ or_left _ _ h) (not_among x xs hs)

pub distinct_append : (xs ys : List (List ℕ)) → distinct xs ≡ true → distinct ys ≡ true → Each (λ y. mem y xs ≡ false) ys → distinct (xs ++ ys) ≡ true
unfolding distinct mem
distinct_append [] ys h k a = k
distinct_append (x ∷ xs) ys h k a =
    rw (mem_append x xs ys, distinct_head x xs h, not_among x xs a)
    (distinct_append xs ys (distinct_tail x xs h) k (each_map (λ y e. or_right (eqs y x) (mem y xs) e) a))

-- ---- records with keys

module _ {A : Type 0} (key : A → List ℕ) (p : A → Bool) where
  -- a key that none has, none that is kept has
  pub mem_sift : (t : List ℕ) (xs : List A) → mem t (map key xs) ≡ false → mem t (map key (sift p xs)) ≡ false
  unfolding mem sift
  mem_sift t [] h = refl
  mem_sift t (x ∷ xs) h =
      rw (map_onto key (p x) x (sift p xs), mem_onto t (p x) (key x) (map key (sift p xs)))
      (or_both _ _ (and_none (p x) (eqs t (key x)) (or_left (eqs t (key x)) (mem t (map key xs)) h)) (mem_sift t xs (or_right (eqs t (key x)) (mem t (map key xs)) h)))

  pub distinct_sift : (xs : List A) → distinct (map key xs) ≡ true → distinct (map key (sift p xs)) ≡ true
  unfolding sift
  distinct_sift [] h = h
  distinct_sift (x ∷ xs) h =
      rw (map_onto key (p x) x (sift p xs))
      (distinct_onto (p x) (key x) (map key (sift p xs)) (λ e. mem_sift (key x) xs (distinct_head (key x) (map key xs) h)) (distinct_sift xs (distinct_tail (key x) (map key xs) h)))

-- ---- of those that are picked

module _ {A : Type 0} (key : A → List ℕ) (p : ℕ → Bool) where
  mem_pick : (t : List ℕ) (vs : List ℕ) (xs : List A) → mem t (map key xs) ≡ false → mem t (map key (pick p vs xs)) ≡ false
  unfolding pick mem
  mem_pick t [] xs h = refl
  mem_pick t (v ∷ vs) [] h = refl
  mem_pick t (v ∷ vs) (x ∷ xs) h =
      rw (map_onto key (p v) x (pick p vs xs), mem_onto t (p v) (key x) (map key (pick p vs xs)))
      (or_both (p v && eqs t (key x)) _ (and_none (p v) (eqs t (key x)) (or_left (eqs t (key x)) (mem t (map key xs)) h))
      (mem_pick t vs xs (or_right (eqs t (key x)) (mem t (map key xs)) h)))

  pub distinct_pick : (vs : List ℕ) (xs : List A) → distinct (map key xs) ≡ true → distinct (map key (pick p vs xs)) ≡ true
  unfolding pick distinct
  distinct_pick [] xs h = refl
  distinct_pick (v ∷ vs) [] h = refl
  distinct_pick (v ∷ vs) (x ∷ xs) h =
      rw (map_onto key (p v) x (pick p vs xs))
      (distinct_onto (p v) (key x) (map key (pick p vs xs)) (λ e. mem_pick (key x) vs xs (distinct_head (key x) (map key xs) h))
      (distinct_pick vs xs (distinct_tail (key x) (map key xs) h)))

-- ---- by their places

-- what stands at a place is among them
pub mem_at : (xs : List (List ℕ)) (i : ℕ) → i < length xs → mem (get_or xs i []) xs ≡ true
unfolding mem
mem_at [] i h = absurd (omega arith)
mem_at (x ∷ xs) zero h = rw (eqs_refl x)
mem_at (x ∷ xs) (suc i) h = or_true (eqs (get_or xs i []) x) (mem (get_or xs i []) xs) (mem_at xs i (omega arith))

-- what is the same stands at one place
pub distinct_places : (xs : List (List ℕ)) → distinct xs ≡ true → (i j : ℕ) → i < length xs → j < length xs → get_or xs i [] ≡ get_or xs j [] → i ≡ j
distinct_places [] d i j h k e = absurd (omega arith)
distinct_places (x ∷ xs) d zero zero h k e = refl
distinct_places (x ∷ xs) d zero (suc j) h k e = absurd (true≢false (sym (mem_at xs j (omega arith)) ∙ rw (← e) (distinct_head x xs d)))
distinct_places (x ∷ xs) d (suc i) zero h k e = absurd (true≢false (sym (mem_at xs i (omega arith)) ∙ rw e (distinct_head x xs d)))
distinct_places (x ∷ xs) d (suc i) (suc j) h k e = ap suc (distinct_places xs (distinct_tail x xs d) i j (omega arith) (omega arith) e)

-- ---- with one key

module _ (key : List ℕ → List ℕ) (t : List ℕ) where
  sift_key : (xs : List (List ℕ)) → mem t (map key xs) ≡ false → length (sift (λ x. eqs (key x) t) xs) ≡ 0
  unfolding mem sift onto
  sift_key [] h = refl
  sift_key (x ∷ xs) h =
      rw (eqs_sym (key x) t, or_left (eqs t (key x)) (mem t (map key xs)) h) (sift_key xs (or_right (eqs t (key x)) (mem t (map key xs)) h))

  -- where no two have one key, at most one has this
  pub distinct_single : (xs : List (List ℕ)) → distinct (map key xs) ≡ true → length (sift (λ x. eqs (key x) t) xs) ≤ 1
  unfolding sift onto
  distinct_single [] h = omega arith
  distinct_single (x ∷ xs) h = go (eqs (key x) t) refl (distinct_single xs (distinct_tail (key x) (map key xs) h))
    where
      go : (b : Bool) → eqs (key x) t ≡ b → length (sift (λ y. eqs (key y) t) xs) ≤ 1 → length (onto b x (sift (λ y. eqs (key y) t) xs)) ≤ 1
      go true e ih = omega (arith, sift_key xs (rw (eqs_true (key x) t e) at (distinct_head (key x) (map key xs) h)))
      go false e ih = ih
