-- Laws of lists of which each has a property. Assumes nothing.
use Rattle.std.specs.Prelude.{◌≡◌, refl, List, [], ◌∷◌, ◌++◌, map, ℕ, zero, suc, ◌<◌, length, get_or, set, replicate}
use Rattle.std.proofs.Common.{arith}
use Rattle.theory.specs.Each.{Each, none, more}

module _ {A : Type 0} {q : A → Type 0} where
  pub each_head : {x : A} {xs : List A} → Each q (x ∷ xs) → q x
  each_head (more h hs) = h

  pub each_tail : {x : A} {xs : List A} → Each q (x ∷ xs) → Each q xs
  each_tail (more h hs) = hs

  pub each_map : {q' : A → Type 0} {xs : List A} → ((x : A) → q x → q' x) → Each q xs → Each q' xs
  each_map g none = none
  each_map g (more h hs) = more (g _ h) (each_map g hs)

  -- what is known of f y for each y is known of each of the images
  pub each_of_map : {B : Type 0} (f : B → A) (ys : List B) → Each (λ y. q (f y)) ys → Each q (map f ys)
  each_of_map f [] h = none
  each_of_map f (y ∷ ys) (more h hs) = more h (each_of_map f ys hs)

  pub each_append : {xs ys : List A} → Each q xs → Each q ys → Each q (xs ++ ys)
  each_append none k = k
  each_append (more h hs) k = more h (each_append hs k)

  pub each_at : {xs : List A} → Each q xs → (i : ℕ) (d : A) → i < length xs → q (get_or xs i d)
  each_at none i d l = absurd (omega arith)
  each_at (more h hs) zero d l = h
  each_at (more h hs) (suc i) d l = each_at hs i d (omega arith)

  -- from what is known at every place
  pub each_from : (xs : List A) (d : A) → ((i : ℕ) → i < length xs → q (get_or xs i d)) → Each q xs
  each_from [] d g = none
  each_from (x ∷ xs) d g = more (g 0 (omega arith)) (each_from xs d (λ i l. g (suc i) (omega arith)))

  pub each_replicate : (n : ℕ) (x : A) → q x → Each q (replicate n x)
  each_replicate zero x h = none
  each_replicate (suc n) x h = more h (each_replicate n x h)

-- one replaced
pub each_set : {A : Type 0} {q : A → Type 0} {xs : List A} → Each q xs → (i : ℕ) (x : A) → q x → Each q (set xs i x)
each_set none i x h = none
each_set (more k ks) zero x h = more h ks
each_set (more k ks) (suc i) x h = more k (each_set ks i x h)

pub each_both : {A : Type 0} {p q : A → Type 0} {xs : List A} → Each p xs → Each q xs → Each (λ x. p x × q x) xs
each_both none none = none
each_both (more h hs) (more k ks) = more (h, k) (each_both hs ks)

-- a change that changes none of a list
pub map_fixed : {A : Type 0} (f : A → A) {xs : List A} → Each (λ x. f x ≡ x) xs → map f xs ≡ xs
map_fixed f none = refl
map_fixed f (more h hs) = rw (h, map_fixed f hs)
