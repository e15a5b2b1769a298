-- Verdicts of which each 0 stands at the first line of a text: the lines with another verdict, alone, say which have 0.
-- Assumes nothing.
use Rattle.std.specs.Prelude.{◌≡◌, Bool, ◌&&◌, ◌||◌, ℕ, zero, suc, length}
use Rattle.std.proofs.Math.Path.{refl, sym}
use Rattle.std.proofs.Common.{ap, ◌∙◌, arith, lt-ltb, le-ltb}
use Rattle.std.proofs.Math.Bool.{true, false, not}
use mathlib.Core.List.{List, [], ◌∷◌, ◌++◌, map}
use Rattle.std.proofs.Math.Dec.{ltb}
use Rattle.theory.specs.laws.Truth.{or_left, or_right, or_true, or_false}
use Rattle.theory.specs.Same.{eqs, mem}
use Rattle.theory.specs.laws.Same.{eqs_refl, eqs_true, mem_append}
use Rattle.theory.specs.Count.{bump, count}
use Rattle.theory.specs.laws.Count.{bump_and_eq, count_self}
use Rattle.theory.specs.laws.Keep.{count_onto, count_onto_other}
use Rattle.theory.specs.Pick.{good, bad, pick}
use Rattle.theory.specs.laws.Pick.{bad_is}
use Rattle.theory.specs.Firsts.{firsts_from, firsts}
use Rattle.theory.specs.laws.Firsts.{firsts_head, firsts_tail}
use Rattle.pairing.specs.Pairing.{is_taken, marks_from, marks, left, told}
use Rattle.pairing.specs.laws.Pairing.{mark, pick_mark, told_is}

-- ---- one line more in front

pub mem_front : (t : List ℕ) (before : List (List ℕ)) (x : List ℕ) → mem t before ≡ true → mem t (before ++ x ∷ []) ≡ true
mem_front t before x h = mem_append t before (x ∷ []) ∙ rw h

pub mem_last : (t : List ℕ) (before : List (List ℕ)) → mem t (before ++ t ∷ []) ≡ true
unfolding mem
mem_last t before = mem_append t before (t ∷ []) ∙ or_true (mem t before) _ (rw (eqs_refl t))

mem_rest : (t : List ℕ) (before : List (List ℕ)) (x : List ℕ) → mem t (before ++ x ∷ []) ≡ false → (mem t before ≡ false) × (eqs t x ≡ false)
unfolding mem
mem_rest t before x h =
    let e : mem t before || (eqs t x || false) ≡ false = sym (mem_append t before (x ∷ [])) ∙ h in
    (or_left (mem t before) _ e, or_left (eqs t x) false (or_right (mem t before) _ e))

pub mem_some : (t : List ℕ) (before : List (List ℕ)) (x : List ℕ) → mem t (before ++ x ∷ []) ≡ true → eqs t x ≡ false → mem t before ≡ true
unfolding mem
mem_some t before x h e = sym (or_false (mem t before)) ∙ sym (mem_append t before (x ∷ []) ∙ rw e) ∙ h

-- ---- the marks read off

not_good : (v : ℕ) → good v ≡ false → bad v ≡ true
not_good v h = bad_is v ∙ rw h

-- of a text that stands in front, every copy has another verdict than 0
settled : (t : List ℕ) (before ts : List (List ℕ)) (vs : List ℕ) → length vs ≡ length ts → firsts_from before ts vs ≡ true → mem t before ≡ true
    → count t (pick bad vs ts) ≡ count t ts
unfolding pick count
settled t before [] [] l h m = refl
settled t before [] (v ∷ vs) l h m = absurd (omega arith)
settled t before (x ∷ ts) [] l h m = absurd (omega arith)
settled t before (x ∷ ts) (v ∷ vs) l h m =
    rw (count_onto t (bad v) x (pick bad vs ts))
    (bump_and_eq (bad v) (eqs t x) _ _ (settled t (before ++ x ∷ []) ts vs (omega arith) (firsts_tail before x ts v vs h) (mem_front t before x m))
    (λ e. not_good v (firsts_head before x ts v vs h (rw (eqs_true t x e) at m))))

-- all copies of a text but the first have another verdict
more_often : (v n : ℕ) → ltb (bump (bad v && true) n) (suc n) ≡ good v
unfolding good bad bump
more_often zero n = lt-ltb n (suc n) (omega arith)
more_often (suc v) n = le-ltb (suc n) (suc n) (omega arith)

module _ (all copies : List (List ℕ)) where
  -- the copies of a text that does not stand in front are all behind
  abbrev Behind : List (List ℕ) → List (List ℕ) → List ℕ → Type 0
  Behind before ts vs = (t : List ℕ) → mem t before ≡ false → (count t all ≡ count t ts) × (count t copies ≡ count t (pick bad vs ts))

  module _ (before : List (List ℕ)) (t : List ℕ) (ts : List (List ℕ)) (v : ℕ) (vs : List ℕ) (k : Behind before (t ∷ ts) (v ∷ vs)) where
    taken_is : length vs ≡ length ts → firsts_from before (t ∷ ts) (v ∷ vs) ≡ true → is_taken all copies before t ≡ good v
    unfolding is_taken pick
    taken_is l h = go (mem t before) refl
      where
        go : (b : Bool) → mem t before ≡ b → not b && ltb (count t copies) (count t all) ≡ good v
        go true e = sym (firsts_head before t ts v vs h e)
        go false e =
            let s = settled t (before ++ t ∷ []) ts vs l (firsts_tail before t ts v vs h) (mem_last t before) in
            rw ((k t e).0, (k t e).1, count_onto t (bad v) t (pick bad vs ts), count_self t ts, eqs_refl t, s)
            (more_often v (count t ts))

    behind_next : Behind (before ++ t ∷ []) ts vs
    unfolding pick count bump
    behind_next u m =
        let (q, e) = mem_rest u before t m in
        ((k u q).0 ∙ rw e, (k u q).1 ∙ count_onto_other u (bad v) t _ e)

  marks_from_lem : (before ts : List (List ℕ)) (vs : List ℕ) → length vs ≡ length ts → firsts_from before ts vs ≡ true → Behind before ts vs
      → marks_from all copies before ts ≡ map mark vs
  unfolding marks_from mark
  marks_from_lem before [] [] l h k = refl
  marks_from_lem before [] (v ∷ vs) l h k = absurd (omega arith)
  marks_from_lem before (t ∷ ts) [] l h k = absurd (omega arith)
  marks_from_lem before (t ∷ ts) (v ∷ vs) l h k =
      rw (taken_is before t ts v vs k (omega arith) h, ← bad_is v)
      (ap (λ (us : List ℕ). bump (bad v) 0 ∷ us) (marks_from_lem (before ++ t ∷ []) ts vs (omega arith) (firsts_tail before t ts v vs h) (behind_next before t ts v vs k)))

module _ (ts : List (List ℕ)) (vs : List ℕ) (l : length vs ≡ length ts) (h : firsts ts vs ≡ true) where
  -- what is read off is what the verdicts said
  pub marks_is : marks ts (pick bad vs ts) ≡ map mark vs
  unfolding marks firsts
  marks_is = marks_from_lem ts (pick bad vs ts) [] ts vs l h (λ t e. (refl, refl))

  -- the lines with another verdict than 0 are the lines left
  pub left_is : left ts (pick bad vs ts) ≡ pick bad vs ts
  unfolding left
  left_is = rw marks_is (pick_mark vs ts)

  -- with the reasons, the verdicts again
  pub told_marks : told (marks ts (pick bad vs ts)) (pick bad vs vs) ≡ vs
  told_marks = rw marks_is (told_is vs)
