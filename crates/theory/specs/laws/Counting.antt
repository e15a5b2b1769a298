-- How many parts of a block pass a test, and the first of them, as a walk finds them. Assumes nothing.
use Rattle.std.specs.Prelude.{◌≡◌, refl, Bool, true, false, not, ◌||◌, List, [], ◌∷◌, eqb, get_or}
use Rattle.std.proofs.Common.{sym, ◌∙◌, ne_eqb}
use Prim.Native.Nat.{ℕ, suc, ◌+◌, ◌-◌, ◌≤◌, ◌<◌}
use native.Mathlib.Omega.{arith}
use Rattle.std.proofs.Math.ListN.{length}
use Rattle.theory.specs.Parts.{chop, part_at}
use Rattle.theory.specs.laws.Parts.{parts_from, parts_start, parts_step, parts_end}
use Rattle.theory.specs.Walk.{some}
use Rattle.theory.specs.Count.{bump}
use Rattle.theory.specs.laws.Count.{bump_add}
use Rattle.theory.specs.Keep.{onto, sift}
use Rattle.theory.specs.laws.Keep.{length_onto}
use Rattle.theory.specs.Place.{place_on, place}

-- k of those before i pass
unfoldable pub Counting : (List ℕ → Bool) → ℕ → ℕ → List ℕ → ℕ → ℕ → Type 0
Counting q w n b i k = length (sift q (chop w n b)) ≡ k + length (sift q (parts_from w n i b))

module _ (q : List ℕ → Bool) (w n : ℕ) (b : List ℕ) where
  pub counting_start : Counting q w n b 0 0
  unfolding Counting
  counting_start = rw (parts_start w n b) (omega arith)

  module _ (i k : ℕ) (v : Counting q w n b i k) where
    pub counting_end : n ≤ i → k ≡ length (sift q (chop w n b))
    unfolding Counting sift
    counting_end h = let e : length (sift q (parts_from w n i b)) ≡ 0 = rw (parts_end w n b i h) in omega arith

    -- x is the part, r what the test said of it, and j the count after it
    pub counting_turn : i < n → (x : List ℕ) → x ≡ part_at w i b → (r : Bool) → r ≡ q x → (j : ℕ) → j ≡ bump r k → Counting q w n b (i + 1) j
    unfolding Counting sift
    counting_turn h x p r e j f =
        let s : length (sift q (parts_from w n i b)) ≡ bump r (length (sift q (parts_from w n (i + 1) b))) =
        rw (parts_step w n b i h, ← p, ← e) (length_onto r x (sift q (parts_from w n (i + 1) b))) in
        omega (arith, bump_add r k (length (sift q (parts_from w n (i + 1) b))))

-- ---- a walk from the last part to the first

module _ (q : List ℕ → Bool) (w n : ℕ) (b : List ℕ) where
  -- from place i on k parts pass, and the first of them, or the end, is at f
  unfoldable pub Behind : ℕ → ℕ → ℕ → Type 0
  Behind i k f = (k ≡ length (sift q (parts_from w n i b))) × (f ≡ i + place q (parts_from w n i b))

  pub behind_start : Behind n 0 n
  unfolding Behind sift place
  behind_start = rw (parts_end w n b n (omega arith)) (refl, omega arith)

  module _ (j k f : ℕ) (v : Behind j k f) where
    pub behind_end : j ≡ 0 → (k ≡ length (sift q (chop w n b))) × (f ≡ place q (chop w n b))
    unfolding Behind
    behind_end z = let e : chop w n b ≡ parts_from w n j b = rw z (parts_start w n b) in rw e (v.0, omega (arith, v.1, z))

    -- x is the part in front of j, and r what the test said of it
    module _ (h : (0 < j) × (j ≤ n)) (x : List ℕ) (p : x ≡ part_at w (j - 1) b) (r : Bool) (e : r ≡ q x) where
      count : length (sift q (parts_from w n (j - 1) b)) ≡ bump r k
      unfolding Behind sift
      count =
          let s : j - 1 + 1 ≡ j = omega arith in
          rw (parts_step w n b (j - 1) (omega arith), ← p, ← e, s, v.0) (length_onto r x (sift q (parts_from w n j b)))

      first : place q (parts_from w n (j - 1) b) ≡ place_on r (place q (parts_from w n j b))
      unfolding place
      first =
          let s : j - 1 + 1 ≡ j = omega arith in
          rw (parts_step w n b (j - 1) (omega arith), ← p, ← e, s)

      pub behind_hit : r ≡ true → Behind (j - 1) (k + 1) (j - 1)
      unfolding Behind bump place_on
      behind_hit t =
          let c : length (sift q (parts_from w n (j - 1) b)) ≡ suc k = count ∙ rw t in
          let g : place q (parts_from w n (j - 1) b) ≡ 0 = first ∙ rw t in (omega arith, omega arith)

      pub behind_miss : r ≡ false → Behind (j - 1) k f
      unfolding Behind bump place_on
      behind_miss t =
          let c : length (sift q (parts_from w n (j - 1) b)) ≡ k = count ∙ rw t in
          let g : place q (parts_from w n (j - 1) b) ≡ suc (place q (parts_from w n j b)) = first ∙ rw t in (sym c, omega (arith, v.1))

-- the first that passes stands at its place
pub sift_first : (q : List ℕ → Bool) (xs : List (List ℕ)) → get_or (sift q xs) 0 [] ≡ get_or xs (place q xs) []
unfolding sift onto place place_on
sift_first q [] = refl
sift_first q (x ∷ xs) = go (q x) (sift_first q xs)
  where
    go : (r : Bool) → get_or (sift q xs) 0 [] ≡ get_or xs (place q xs) [] → get_or (onto r x (sift q xs)) 0 [] ≡ get_or (x ∷ xs) (place_on r (place q xs)) []
    go true ih = refl
    go false ih = ih

-- one passes where their number is not 0
pub sift_some : (q : List ℕ → Bool) (xs : List (List ℕ)) → some q xs ≡ not (eqb (length (sift q xs)) 0)
unfolding sift onto some
sift_some q [] = refl
sift_some q (x ∷ xs) = go (q x) (sift_some q xs)
  where
    go : (r : Bool) → some q xs ≡ not (eqb (length (sift q xs)) 0) → r || some q xs ≡ not (eqb (length (onto r x (sift q xs))) 0)
    go true ih = rw (ne_eqb (suc (length (sift q xs))) 0 (λ e. omega arith))
    go false ih = ih
