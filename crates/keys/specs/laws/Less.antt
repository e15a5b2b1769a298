-- Laws of the order of texts by their bytes, and what a walk over two of them keeps. Assumes nothing.
use Rattle.std.specs.Prelude.{◌≡◌, Bool, ◌&&◌, ◌||◌, ℕ, ◌+◌, ◌≤◌, ◌<◌, eqb, length, drop, get_or}
use Rattle.std.proofs.Math.Path.{refl}
use Rattle.std.proofs.Common.{◌∙◌, arith}
use Rattle.std.proofs.Math.Bool.{true, false}
use Rattle.std.proofs.lemmas.Bool.{false≢true}
use mathlib.Core.List.{List, [], ◌∷◌}
use Rattle.std.proofs.Math.Numerals.{add-one}
use Rattle.std.proofs.Math.Dec.{ltb}
use Rattle.std.proofs.Math.ListN.{drop_of_length-le}
use Rattle.std.proofs.Math.Seq.{drop-cons}
use borrow.Author.Tests.{eq-eqb, ne_eqb, lt-ltb, le-ltb, ltb-true, eqb-true}
use Rattle.theory.specs.laws.Truth.{and_split, or_true, or_false}
use Rattle.keys.specs.Less.{less}

module _ (x y : ℕ) (s t : List ℕ) where
  -- a byte is lower, or it is the same and what follows is less
  less_by : {A : Type 0} → less (x ∷ s) (y ∷ t) ≡ true → (x < y → A) → (x ≡ y → less s t ≡ true → A) → A
  unfolding less
  less_by {A} h f g = go (ltb x y) refl h
    where
      go : (r : Bool) → ltb x y ≡ r → r || (eqb x y && less s t) ≡ true → A
      go true e k = f (ltb-true x y e)
      go false e k = let (p, q) = and_split (eqb x y) (less s t) k in g (eqb-true x y p) q

  less_here : x < y → less (x ∷ s) (y ∷ t) ≡ true
  unfolding less
  less_here l = rw (lt-ltb x y l)

  less_next : x ≡ y → less s t ≡ true → less (x ∷ s) (y ∷ t) ≡ true
  unfolding less
  less_next e h = or_true (ltb x y) _ (rw (eq-eqb x y e, h))

pub less_trans : (s t u : List ℕ) → less s t ≡ true → less t u ≡ true → less s u ≡ true
unfolding less
less_trans [] t u p q = absurd (false≢true p)
less_trans (x ∷ s) [] u p q = absurd (false≢true p)
less_trans (x ∷ s) (y ∷ t) [] p q = absurd (false≢true q)
less_trans (x ∷ s) (y ∷ t) (z ∷ u) p q =
    less_by x y s t p
    (λ l. less_by y z t u q (λ m. less_here x z s u (omega arith)) (λ f k. less_here x z s u (omega arith)))
    (λ e h. less_by y z t u q (λ m. less_here x z s u (omega arith)) (λ f k. less_next x z s u (e ∙ f) (less_trans s t u h k)))

-- no text is less than itself
pub less_no : (t : List ℕ) → less t t ≡ true → ⊥
unfolding less
less_no [] h = false≢true h
less_no (x ∷ t) h = less_by x x t t h (λ l. omega arith) (λ e k. less_no t k)

-- ---- a walk: what is left from the place i on decides

unfoldable pub LessFrom : List ℕ → List ℕ → ℕ → Type 0
LessFrom s t i = less s t ≡ less (drop i s) (drop i t)

module _ (s t : List ℕ) where
  pub less_start : LessFrom s t 0
  unfolding LessFrom
  less_start = refl

  module _ (i : ℕ) (v : LessFrom s t i) where
    module _ (a : i < length s) (b : i < length t) where
      step : less s t ≡ ltb (get_or s i 0) (get_or t i 0) || (eqb (get_or s i 0) (get_or t i 0) && less (drop (i + 1) s) (drop (i + 1) t))
      unfolding LessFrom less
      step = v ∙ rw (drop-cons s i 0 a, drop-cons t i 0 b, add-one i)

      pub less_off : (get_or s i 0 ≡ get_or t i 0 → ⊥) → ltb (get_or s i 0) (get_or t i 0) ≡ less s t
      less_off n = rw (step, ne_eqb (get_or s i 0) (get_or t i 0) n, or_false (ltb (get_or s i 0) (get_or t i 0)))

      pub less_on : get_or s i 0 ≡ get_or t i 0 → LessFrom s t (i + 1)
      unfolding LessFrom
      less_on e = step ∙ rw (le-ltb (get_or s i 0) (get_or t i 0) (omega arith), eq-eqb (get_or s i 0) (get_or t i 0) e)

    -- nothing is left of one of them
    pub less_over : length s ≤ i → false ≡ less s t
    unfolding LessFrom less
    less_over h = rw (v, drop_of_length-le s h)

    pub less_end : length t ≤ i → false ≡ less s t
    unfolding LessFrom less
    less_end h = rw (v, drop_of_length-le t h) (go (drop i s))
      where
        go : (u : List ℕ) → false ≡ less u []
        go [] = refl
        go (x ∷ u) = refl
