-- The lines of an HGV paired with the copies in its HGC from the last to the first: a line that is the last copy not
-- paired yet is paired with it, and any other line is not paired. Where this uses all copies up and each line not paired
-- is the first of its text, and only there, the copies are the lines left: T15. Assumes nothing.
use Rattle.std.specs.Prelude.{◌≡◌, Bool, not, ◌&&◌, eqb, get_or}
use Rattle.std.proofs.Math.Path.{refl, sym, ap}
use Rattle.std.proofs.Common.{◌∙◌, length-append, drop-cons}
use Rattle.std.proofs.Math.Bool.{true, false}
use mathlib.Core.List.{List, [], ◌∷◌, ◌++◌, map, append_assoc, append-nil}
use Prim.Native.Nat.{ℕ, zero, suc, ◌≤◌}
use native.Mathlib.Omega.{arith}
use Rattle.std.proofs.Math.ListN.{length, drop, get_or-append}
use Rattle.std.proofs.Math.Seq.{drop-length, get_or-append_seam}
use borrow.Author.Tests.{eqb-true, eq-eqb}
use Rattle.theory.specs.laws.Truth.{and_left, and_right, and_both}
use Rattle.theory.specs.Same.{eqs, mem}
use Rattle.theory.specs.laws.Same.{eqs_refl, eqs_true}
use Rattle.theory.specs.Count.{bump}
use Rattle.theory.specs.Each.{Each, none, more}
use Rattle.theory.specs.laws.Each.{each_map, each_append, each_at}
use Rattle.theory.specs.Keep.{onto}
use Rattle.theory.specs.Pick.{good, bad, pick}
use Rattle.theory.specs.Firsts.{firsts_from, firsts}
use Rattle.theory.specs.laws.Firsts.{firsts_zero, firsts_tail, firsts_more}
use Rattle.pairing.specs.Pairing.{is_taken, marks_from, marks, left}
use Rattle.pairing.specs.laws.Pairing.{mark, length_marks}
use Rattle.pairing.specs.laws.Firsts.{mem_front, mem_last, marks_is, left_is}
use Rattle.pairing.specs.Backwards.{is_last, lower, waiting, paired}

-- all copies are used up, and each line not paired is the first of its text
unfoldable pub pairs_up : List (List ℕ) → List (List ℕ) → Bool
pairs_up all copies = eqb (waiting all copies) 0 && firsts all (paired all copies)

-- ---- the lines paired are the copies that do not wait

lower_le : (b : Bool) (k : ℕ) → lower b k ≤ k
unfolding lower
lower_le true zero = omega arith
lower_le true (suc k) = omega arith
lower_le false k = omega arith

bad_bump : (b : Bool) → bad (bump b 0) ≡ b
unfolding bad bump
bad_bump true = refl
bad_bump false = refl

mark_bump : (b : Bool) → mark (bump b 0) ≡ bump b 0
unfolding mark bad bump
mark_bump true = refl
mark_bump false = refl

module _ (copies : List (List ℕ)) where
  pub waiting_le : (ts : List (List ℕ)) → waiting ts copies ≤ length copies
  unfolding waiting
  waiting_le [] = omega arith
  waiting_le (t ∷ ts) = let h = waiting_le ts in let k = lower_le (is_last copies (waiting ts copies) t) (waiting ts copies) in omega arith

  last_front : (t : List ℕ) (k : ℕ) → k ≤ length copies → onto (is_last copies k t) t (drop k copies) ≡ drop (lower (is_last copies k t) k) copies
  unfolding is_last lower onto
  last_front t zero h = refl
  last_front t (suc k) h = go (eqs t (get_or copies k [])) refl
    where
      go : (b : Bool) → eqs t (get_or copies k []) ≡ b → onto b t (drop (suc k) copies) ≡ drop (lower b (suc k)) copies
      go true e = sym (drop-cons copies k [] (omega arith) ∙ ap (λ (u : List ℕ). u ∷ drop (suc k) copies) (sym (eqs_true t (get_or copies k []) e)))
      go false e = refl

  pub pick_paired : (ts : List (List ℕ)) → pick bad (paired ts copies) ts ≡ drop (waiting ts copies) copies
  unfolding pick paired waiting
  pick_paired [] = sym (drop-length copies)
  pick_paired (t ∷ ts) = rw (bad_bump (is_last copies (waiting ts copies) t), pick_paired ts) (last_front t (waiting ts copies) (waiting_le ts))

  pub length_paired : (ts : List (List ℕ)) → length (paired ts copies) ≡ length ts
  unfolding paired
  length_paired [] = refl
  length_paired (t ∷ ts) = ap suc (length_paired ts)

  mark_paired : (ts : List (List ℕ)) → map mark (paired ts copies) ≡ paired ts copies
  unfolding paired
  mark_paired [] = refl
  mark_paired (t ∷ ts) = rw (mark_bump (is_last copies (waiting ts copies) t), mark_paired ts)

-- ---- verdicts of which each 0 is at the first line of a text are found again

module _ (before : List (List ℕ)) (t : List ℕ) (ps qs : List (List ℕ)) where
  -- a line whose text is not in front is none of the copies of lines in front
  not_last : mem t before ≡ false → Each (λ p. mem p before ≡ true) ps → is_last (ps ++ qs) (length ps) t ≡ false
  unfolding is_last
  not_last m a = go (length ps) refl
    where
      go : (k : ℕ) → length ps ≡ k → is_last (ps ++ qs) k t ≡ false
      go zero e = refl
      go (suc k) e = rw (get_or-append ps qs [] k (omega arith)) (other (eqs t (get_or ps k [])) refl)
        where
          other : (b : Bool) → eqs t (get_or ps k []) ≡ b → b ≡ false
          other true q = sym (each_at a k [] (omega arith)) ∙ (rw (eqs_true t (get_or ps k []) q) at m)
          other false q = refl

  last_is : is_last (ps ++ t ∷ qs) (suc (length ps)) t ≡ true
  unfolding is_last
  last_is = rw (get_or-append_seam ps t qs []) (eqs_refl t)

-- `before` are the texts in front of the lines ts, and ps copies of some of them
found_from : (before ts : List (List ℕ)) (vs : List ℕ) (ps : List (List ℕ)) → length vs ≡ length ts → firsts_from before ts vs ≡ true
    → Each (λ p. mem p before ≡ true) ps
    → (waiting ts (ps ++ pick bad vs ts) ≡ length ps) × (paired ts (ps ++ pick bad vs ts) ≡ map mark vs)
unfolding waiting paired pick bad good onto mark bump lower
found_from before [] [] ps l h a = (ap length (append-nil ps), refl)
found_from before [] (v ∷ vs) ps l h a = absurd (omega arith)
found_from before (t ∷ ts) [] ps l h a = absurd (omega arith)
found_from before (t ∷ ts) (zero ∷ vs) ps l h a =
    let (w, p) = found_from (before ++ t ∷ []) ts vs ps (omega arith) (firsts_tail before t ts 0 vs h) (each_map (λ u e. mem_front u before t e) a) in
    let n = not_last before t ps (pick bad vs ts) (firsts_zero before t ts vs h) a in
    (rw (w, n), rw (w, n, p))
found_from before (t ∷ ts) (suc v ∷ vs) ps l h a =
    let b = each_append (each_map (λ u e. mem_front u before t e) a) (more (mem_last t before) none) in
    let (w, p) = found_from (before ++ t ∷ []) ts vs (ps ++ t ∷ []) (omega arith) (firsts_tail before t ts (suc v) vs h) b in
    let c : (ps ++ t ∷ []) ++ pick bad vs ts ≡ ps ++ t ∷ pick bad vs ts = append_assoc ps (t ∷ []) (pick bad vs ts) in
    let q : waiting ts (ps ++ t ∷ pick bad vs ts) ≡ suc (length ps) = rw (← c) (w ∙ length-append ps (t ∷ []) ∙ omega arith) in
    let r : paired ts (ps ++ t ∷ pick bad vs ts) ≡ map mark vs = rw (← c) p in
    let n = last_is before t ps (pick bad vs ts) in
    (rw (q, n), rw (q, n, r))

module _ (ts : List (List ℕ)) (vs : List ℕ) (l : length vs ≡ length ts) (h : firsts ts vs ≡ true) where
  pub waiting_none : waiting ts (pick bad vs ts) ≡ 0
  unfolding firsts
  waiting_none = (found_from [] ts vs [] l h none).0

  pub paired_is : paired ts (pick bad vs ts) ≡ map mark vs
  unfolding firsts
  paired_is = (found_from [] ts vs [] l h none).1

-- ---- the copies are the lines left

module _ (all copies : List (List ℕ)) where
  not_taken : (before : List (List ℕ)) (t : List ℕ) → mem t before ≡ true → good (bump (not (is_taken all copies before t)) 0) ≡ false
  unfolding is_taken good bump
  not_taken before t m = rw m

  firsts_marks_from : (before ts : List (List ℕ)) → firsts_from before ts (marks_from all copies before ts) ≡ true
  unfolding firsts_from marks_from
  firsts_marks_from before [] = refl
  firsts_marks_from before (t ∷ ts) = firsts_more before t ts _ _ (not_taken before t) (firsts_marks_from (before ++ t ∷ []) ts)

  mark_marks_from : (before ts : List (List ℕ)) → map mark (marks_from all copies before ts) ≡ marks_from all copies before ts
  unfolding marks_from
  mark_marks_from before [] = refl
  mark_marks_from before (t ∷ ts) = rw (mark_bump (not (is_taken all copies before t)), mark_marks_from (before ++ t ∷ []) ts)

  -- a line that was taken is the first of its text
  pub firsts_marks : firsts all (marks all copies) ≡ true
  unfolding firsts marks
  firsts_marks = firsts_marks_from [] all

  mark_marks : map mark (marks all copies) ≡ marks all copies
  unfolding marks
  mark_marks = mark_marks_from [] all

  -- T15: the pairing that uses all copies up, and leaves only first lines alone, says which were taken
  module _ (h : pairs_up all copies ≡ true) where
    used : waiting all copies ≡ 0
    unfolding pairs_up
    used = eqb-true (waiting all copies) 0 (and_left _ (firsts all (paired all copies)) h)

    alone : firsts all (paired all copies) ≡ true
    unfolding pairs_up
    alone = and_right (eqb (waiting all copies) 0) _ h

    picked : pick bad (paired all copies) all ≡ copies
    picked = pick_paired copies all ∙ rw used

    pub marks_paired : marks all copies ≡ paired all copies
    marks_paired = ap (marks all) (sym picked) ∙ marks_is all (paired all copies) (length_paired copies all) alone ∙ mark_paired copies all

    pub left_paired : left all copies ≡ copies
    left_paired = ap (left all) (sym picked) ∙ left_is all (paired all copies) (length_paired copies all) alone ∙ picked

  -- and where the copies are the lines left it is such a pairing
  module _ (h : left all copies ≡ copies) where
    picked_marks : pick bad (marks all copies) all ≡ copies
    unfolding left
    picked_marks = h

    pub paired_marks : paired all copies ≡ marks all copies
    paired_marks = ap (paired all) (sym picked_marks) ∙ paired_is all (marks all copies) (length_marks all copies) firsts_marks ∙ mark_marks

    pub left_waiting : waiting all copies ≡ 0
    left_waiting = ap (waiting all) (sym picked_marks) ∙ waiting_none all (marks all copies) (length_marks all copies) firsts_marks

    pub left_firsts : firsts all (paired all copies) ≡ true
    left_firsts = rw paired_marks firsts_marks

    pub left_pairs_up : pairs_up all copies ≡ true
    unfolding pairs_up
    left_pairs_up = and_both _ _ (eq-eqb (waiting all copies) 0 left_waiting) left_firsts
