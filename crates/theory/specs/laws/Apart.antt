-- What a walk keeps that looks at the parts marked 0: no two of them have one key. Assumes nothing.
use Rattle.std.specs.Prelude.{◌≡◌, refl, Bool, true, false, not, ◌&&◌, ◌||◌, ℕ, ◌+◌, ◌≤◌, ◌<◌, eqb, length, drop, get_or}
use Rattle.std.proofs.Math.Path.{sym}
use Rattle.std.proofs.Common.{◌∙◌, arith}
use Rattle.std.proofs.lemmas.Bool.{false≢true}
use mathlib.Core.List.{List, [], ◌∷◌, ◌++◌, map, map-append}
use Rattle.theory.specs.laws.Truth.{and_left, and_right, and_none, or_true}
use Rattle.theory.specs.Same.{eqs, mem}
use Rattle.theory.specs.laws.Same.{eqs_sym, mem_append}
use Rattle.theory.specs.Each.{none}
use Rattle.theory.specs.Keep.{onto}
use Rattle.theory.specs.laws.Keep.{onto_append, map_onto, each_onto}
use Rattle.theory.specs.Parts.{chop, part_at}
use Rattle.theory.specs.laws.Parts.{parts_from, length_chop}
use Rattle.theory.specs.laws.Join.{chop_split, chop_snoc}
use Rattle.theory.specs.Pick.{good, pick}
use Rattle.theory.specs.laws.Pick.{pick_next}
use Rattle.theory.specs.Distinct.{distinct}
use Rattle.theory.specs.laws.Distinct.{distinct_onto, distinct_append}
use Rattle.theory.specs.laws.Among.{good_is, taken_from, taken_start, taken_step, taken_end}

-- ---- those picked of the first i parts, and of the rest

pick_append : (p : ℕ → Bool) (vs : List ℕ) (xs ys : List (List ℕ)) → pick p vs (xs ++ ys) ≡ pick p vs xs ++ pick p (drop (length xs) vs) ys
unfolding pick
pick_append p [] [] ys = refl
pick_append p (v ∷ vs) [] ys = refl
pick_append p [] (x ∷ xs) ys = refl
pick_append p (v ∷ vs) (x ∷ xs) ys = rw (pick_append p vs xs ys) (sym (onto_append (p v) x (pick p vs xs) (pick p (drop (length xs) vs) ys)))

taken_split : (w n : ℕ) (vs b : List ℕ) (i : ℕ) → i ≤ n → pick good vs (chop w n b) ≡ pick good vs (chop w i b) ++ taken_from w n vs b i
unfolding taken_from
taken_split w n vs b i h = rw (chop_split w n i b h, pick_append good vs (chop w i b) (parts_from w n i b), length_chop w i b)

-- what stands in front stands there twice
twice : (x : List ℕ) (xs ys : List (List ℕ)) → mem x xs ≡ true → distinct (xs ++ x ∷ ys) ≡ false
unfolding mem distinct
twice x [] ys h = absurd (false≢true h)
twice x (y ∷ xs) ys h = go (eqs x y) refl h (twice x xs ys)
  where
    go : (b : Bool) → eqs x y ≡ b → b || mem x xs ≡ true → (mem x xs ≡ true → distinct (xs ++ x ∷ ys) ≡ false)
        → not (mem y (xs ++ x ∷ ys)) && distinct (xs ++ x ∷ ys) ≡ false
    go true e k ih =
        let m : mem y (xs ++ x ∷ ys) ≡ true = mem_append y xs (x ∷ ys) ∙ or_true (mem y xs) (eqs y x || mem y ys) (rw (eqs_sym y x, e)) in
        rw m
    go false e k ih = and_none (not (mem y (xs ++ x ∷ ys))) (distinct (xs ++ x ∷ ys)) (ih k)

-- ---- no two of the lines marked 0 among the first i have one key

unfoldable pub Apart : (List ℕ → List ℕ) → ℕ → List ℕ → List ℕ → ℕ → Type 0
Apart key w vs b i = distinct (map key (pick good vs (chop w i b))) ≡ true

module _ (key : List ℕ → List ℕ) (w : ℕ) (vs b : List ℕ) where
  pub apart_start : Apart key w vs b 0
  unfolding Apart distinct
  apart_start = rw (taken_start w 0 vs b, taken_end w 0 vs b 0 (omega arith))

  module _ (i : ℕ) (a : Apart key w vs b i) where
    pub apart_end : (n : ℕ) → i ≡ n → distinct (map key (pick good vs (chop w n b))) ≡ true
    unfolding Apart
    apart_end n e = rw (← e) a

    -- x is the line at i, and r says whether one before it has its key
    module _ (l : i < length vs) (x : List ℕ) (p : x ≡ part_at w i b) (r : Bool) (e : r ≡ mem (key x) (map key (pick good vs (chop w i b)))) where
      next : map key (pick good vs (chop w (i + 1) b)) ≡ map key (pick good vs (chop w i b)) ++ onto (eqb (get_or vs i 0) 0) (key x) []
      next =
          let k : length (chop w i b) ≡ i = length_chop w i b in
          rw (
            chop_snoc w i b,
            pick_next good vs (chop w i b) (part_at w i b) (omega arith),
            k,
            good_is (get_or vs i 0),
            ← p,
            map-append key (pick good vs (chop w i b)) (onto (eqb (get_or vs i 0) 0) x []),
            map_onto key (eqb (get_or vs i 0) 0) x [],
          )

      pub apart_on : eqb (get_or vs i 0) 0 && r ≡ false → Apart key w vs b (i + 1)
      unfolding Apart mem distinct
      apart_on t =
          rw next
          (distinct_append (map key (pick good vs (chop w i b))) (onto (eqb (get_or vs i 0) 0) (key x) []) a
          (distinct_onto (eqb (get_or vs i 0) 0) (key x) [] (λ q. refl) refl)
          (each_onto (eqb (get_or vs i 0) 0) (key x) [] (λ q. sym e ∙ (rw q at t)) none))

      pub apart_off : (n : ℕ) → i < n → eqb (get_or vs i 0) 0 && r ≡ true → distinct (map key (pick good vs (chop w n b))) ≡ false
      unfolding onto
      apart_off n h t =
          rw (
            taken_split w n vs b i (omega arith),
            taken_step w n vs b i h l,
            good_is (get_or vs i 0),
            and_left (eqb (get_or vs i 0) 0) r t,
            ← p,
            map-append key (pick good vs (chop w i b)) (x ∷ taken_from w n vs b (i + 1)),
          )
          (twice (key x) (map key (pick good vs (chop w i b))) (map key (taken_from w n vs b (i + 1))) (sym e ∙ and_right (eqb (get_or vs i 0) 0) r t))
