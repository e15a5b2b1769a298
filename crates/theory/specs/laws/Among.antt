-- Some of the parts that were taken pass a test, or each does: walks over the parts and their verdicts. Assumes nothing.
use Rattle.std.specs.Prelude.{◌≡◌, true, false, not, ◌&&◌, ◌||◌, eqb, drop, get_or}
use Rattle.std.proofs.Math.Path.{refl}
use Rattle.std.proofs.Common.{sym, ◌∙◌, drop_of_length-le, ne_eqb}
use Rattle.std.proofs.Math.Bool.{Bool}
use mathlib.Core.List.{List, [], ◌∷◌}
use Prim.Native.Nat.{ℕ, zero, suc, ◌+◌, ◌≤◌, ◌<◌}
use Rattle.std.proofs.Math.Numerals.{add-one}
use native.Mathlib.Omega.{arith}
use Rattle.std.proofs.Math.ListN.{length}
use Rattle.std.proofs.Math.Seq.{drop-cons}
use Rattle.theory.specs.Walk.{each, some}
use Rattle.theory.specs.Count.{bump}
use Rattle.theory.specs.laws.Count.{bump_add}
use Rattle.theory.specs.Keep.{onto, sift}
use Rattle.theory.specs.laws.Keep.{length_sift_onto}
use Rattle.theory.specs.Pick.{good, pick}
use Rattle.theory.specs.Parts.{chop, part_at}
use Rattle.theory.specs.laws.Parts.{parts_from, parts_start, parts_step, parts_end}

some_onto : (q : List ℕ → Bool) (b : Bool) (x : List ℕ) (xs : List (List ℕ)) → some q (onto b x xs) ≡ (b && q x) || some q xs
unfolding some onto
some_onto q true x xs = refl
some_onto q false x xs = refl

pub good_is : (v : ℕ) → good v ≡ eqb v 0
unfolding good
good_is zero = refl
good_is (suc v) = sym (ne_eqb (suc v) 0 (λ e. omega arith))

-- the parts taken from the place i on, as a walk over the parts and their verdicts has them
unfoldable pub taken_from : ℕ → ℕ → List ℕ → List ℕ → ℕ → List (List ℕ)
taken_from w n vs b i = pick good (drop i vs) (parts_from w n i b)

module _ (w n : ℕ) (vs b : List ℕ) where
  pub taken_start : pick good vs (chop w n b) ≡ taken_from w n vs b 0
  unfolding taken_from
  taken_start = rw (parts_start w n b)

  pub taken_step : (i : ℕ) → i < n → i < length vs → taken_from w n vs b i ≡ onto (good (get_or vs i 0)) (part_at w i b) (taken_from w n vs b (i + 1))
  unfolding taken_from pick
  taken_step i h l = rw (parts_step w n b i h, add-one i, drop-cons vs i 0 l)

  pub taken_end : (i : ℕ) → n ≤ i → taken_from w n vs b i ≡ []
  unfolding taken_from pick
  taken_end i h = rw (parts_end w n b i h) (nothing (drop i vs))
    where
      nothing : (us : List ℕ) → pick {A = List ℕ} good us [] ≡ []
      nothing [] = refl
      nothing (u ∷ us) = refl

-- ---- does one of them pass

-- those from the place i on decide
unfoldable pub Among : (List ℕ → Bool) → ℕ → ℕ → List ℕ → List ℕ → ℕ → Type 0
Among q w n vs b i = some q (pick good vs (chop w n b)) ≡ some q (taken_from w n vs b i)

module _ (q : List ℕ → Bool) (w n : ℕ) (vs b : List ℕ) where
  pub among_start : Among q w n vs b 0
  unfolding Among
  among_start = rw (taken_start w n vs b)

  module _ (i : ℕ) (a : Among q w n vs b i) where
    pub among_end : n ≤ i → some q (pick good vs (chop w n b)) ≡ false
    unfolding Among some
    among_end h = a ∙ rw (taken_end w n vs b i h)

    -- x is the part, r what the test said of it
    module _ (h : i < n) (l : i < length vs) (x : List ℕ) (p : x ≡ part_at w i b) (r : Bool) (e : r ≡ q x) where
      step : some q (pick good vs (chop w n b)) ≡ (eqb (get_or vs i 0) 0 && r) || some q (taken_from w n vs b (i + 1))
      unfolding Among
      step = a ∙ rw (taken_step w n vs b i h l, some_onto q (good (get_or vs i 0)) (part_at w i b) (taken_from w n vs b (i + 1)), good_is (get_or vs i 0), ← p, ← e)

      pub among_on : eqb (get_or vs i 0) 0 && r ≡ false → Among q w n vs b (i + 1)
      unfolding Among
      among_on t = step ∙ rw t

      pub among_off : eqb (get_or vs i 0) 0 && r ≡ true → some q (pick good vs (chop w n b)) ≡ true
      among_off t = step ∙ rw t

-- ---- how many pass, of anything that has verdicts

-- k of those before the place i do
unfoldable pub CountAmong : {A : Type 0} → (A → Bool) → List ℕ → List A → ℕ → ℕ → Type 0
CountAmong q vs xs i k = length (sift q (pick good vs xs)) ≡ k + length (sift q (pick good (drop i vs) (drop i xs)))

module _ {A : Type 0} (q : A → Bool) (vs : List ℕ) (xs : List A) where
  pub count_among_start : CountAmong q vs xs 0 0
  unfolding CountAmong
  count_among_start = omega arith

  module _ (i k : ℕ) (a : CountAmong q vs xs i k) where
    pub count_among_end : length vs ≤ i → k ≡ length (sift q (pick good vs xs))
    unfolding CountAmong sift pick
    count_among_end h = let e : length (sift q (pick good (drop i vs) (drop i xs))) ≡ 0 = rw (drop_of_length-le vs h) in omega arith

    -- m counts what stands at i where it was taken and passed
    pub count_among_turn : i < length vs → i < length xs → (d : A) (m : ℕ) → m ≡ bump (good (get_or vs i 0) && q (get_or xs i d)) 0 → CountAmong q vs xs (i + 1) (k + m)
    unfolding CountAmong pick
    count_among_turn h l d m f =
        let n : ℕ = length (sift q (pick good (drop (i + 1) vs) (drop (i + 1) xs))) in
        let t : Bool = good (get_or vs i 0) && q (get_or xs i d) in
        let s : length (sift q (pick good (drop i vs) (drop i xs))) ≡ bump t n =
        rw (add-one i, drop-cons vs i 0 h, drop-cons xs i d l) (length_sift_onto q (good (get_or vs i 0)) (get_or xs i d) _) in
        let e : bump t 0 + n ≡ bump t n = bump_add t 0 n ∙ omega arith in
        omega arith

-- ---- each of them passes: those from the place i on decide

unfoldable pub EachAmong : (List ℕ → Bool) → ℕ → ℕ → List ℕ → List ℕ → ℕ → Type 0
EachAmong q w n vs b i = each q (pick good vs (chop w n b)) ≡ each q (taken_from w n vs b i)

each_more : (q : List ℕ → Bool) (b : Bool) (x : List ℕ) (xs : List (List ℕ)) → each q (onto b x xs) ≡ not (b && not (q x)) && each q xs
unfolding each onto
each_more q true x xs = go (q x)
  where
    go : (r : Bool) → r && each q xs ≡ not (not r) && each q xs
    go true = refl
    go false = refl
each_more q false x xs = refl

module _ (q : List ℕ → Bool) (w n : ℕ) (vs b : List ℕ) where
  pub each_among_start : EachAmong q w n vs b 0
  unfolding EachAmong
  each_among_start = rw (taken_start w n vs b)

  module _ (i : ℕ) (a : EachAmong q w n vs b i) where
    pub each_among_end : n ≤ i → each q (pick good vs (chop w n b)) ≡ true
    unfolding EachAmong each
    each_among_end h = a ∙ rw (taken_end w n vs b i h)

    -- x is the part, r what the test said of it
    module _ (h : i < n) (l : i < length vs) (x : List ℕ) (p : x ≡ part_at w i b) (r : Bool) (e : r ≡ q x) where
      each_step : each q (pick good vs (chop w n b)) ≡ not (eqb (get_or vs i 0) 0 && not r) && each q (taken_from w n vs b (i + 1))
      unfolding EachAmong
      each_step = a ∙ rw (taken_step w n vs b i h l, each_more q (good (get_or vs i 0)) (part_at w i b) (taken_from w n vs b (i + 1)), good_is (get_or vs i 0), ← p, ← e)

      pub each_among_on : eqb (get_or vs i 0) 0 && not r ≡ false → EachAmong q w n vs b (i + 1)
      unfolding EachAmong
      each_among_on t = each_step ∙ rw t

      pub each_among_off : eqb (get_or vs i 0) 0 && not r ≡ true → each q (pick good vs (chop w n b)) ≡ false
      each_among_off t = each_step ∙ rw t
