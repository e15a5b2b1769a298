-- What is read off an HGC is what was judged: T11 and T14, over any judge that asks for a line's own fault and then for
-- its key among the lines taken before. Assumes nothing.
use Rattle.std.specs.Prelude.{◌≡◌, Bool, true, false, ◌&&◌, ◌||◌, ℕ, zero, suc, ◌<◌, length, get_or}
use Rattle.std.proofs.Math.Path.{refl, sym, ap}
use Rattle.std.proofs.Common.{◌∙◌}
use Rattle.std.proofs.lemmas.Bool.{false≢true}
use mathlib.Core.List.{List, [], ◌∷◌, ◌++◌, map, map-append}
use Rattle.theory.specs.Same.{eqs, mem}
use Rattle.theory.specs.laws.Same.{eqs_refl, eqs_true, mem_append}
use Rattle.theory.specs.First.{choose}
use Rattle.theory.specs.laws.First.{otherwise}
use Rattle.theory.specs.Keep.{onto}
use Rattle.theory.specs.laws.Keep.{map_onto, mem_onto}
use Rattle.theory.specs.Pick.{good, bad, pick}
use Rattle.theory.specs.Scan.{taken_next, scan}
use Rattle.theory.specs.laws.Scan.{length_scan}
use Rattle.theory.specs.Firsts.{firsts_from, firsts}
use Rattle.theory.specs.laws.Firsts.{firsts_more, firsts_later}
use Rattle.pairing.specs.Pairing.{marks, left, told}
use Rattle.pairing.specs.laws.Pairing.{mark}
use Rattle.pairing.specs.laws.Firsts.{mem_some, marks_is, left_is, told_marks}

-- f judges a line by its own fault, and a line without one by its key: 1 where a line taken before has that
unfoldable pub Judges : (List ℕ → ℕ) → (List ℕ → List ℕ) → (List (List ℕ) → List ℕ → ℕ) → Type 0
Judges own key f = (taken : List (List ℕ)) (t : List ℕ) → f taken t ≡ otherwise (own t) (choose (mem (key t) (map key taken)) 1 0)

-- a key more among those taken makes no line good
still : (w : ℕ) (m c : Bool) → good (otherwise w (choose m 1 0)) ≡ false → good (otherwise w (choose (m || c) 1 0)) ≡ false
unfolding otherwise choose good
still zero true c h = refl
still zero false true h = refl
still zero false false h = h
still (suc w) m c h = refl

-- nor is a line good whose own key was put there where it was good
again : (w : ℕ) (m : Bool) → good (otherwise w (choose (m || ((good (otherwise w (choose m 1 0)) && true) || false)) 1 0)) ≡ false
unfolding otherwise choose good
again zero true = refl
again zero false = refl
again (suc w) m = refl

module _ (own : List ℕ → ℕ) (key : List ℕ → List ℕ) (f : List (List ℕ) → List ℕ → ℕ) (j : Judges own key f) where
  -- beside one line more, taken where its verdict v is 0
  next : (taken : List (List ℕ)) (v : ℕ) (l t : List ℕ)
      → f (taken_next v l taken) t ≡ otherwise (own t) (choose (mem (key t) (map key taken) || ((good v && eqs (key t) (key l)) || false)) 1 0)
  unfolding Judges taken_next mem
  next taken v l t =
      j (taken_next v l taken) t
      ∙ rw (
        map-append key taken (onto (good v) l []),
        mem_append (key t) (map key taken) (map key (onto (good v) l [])),
        map_onto key (good v) l [],
        mem_onto (key t) (good v) (key l) [],
      )

  -- a text that would be rejected now will be rejected later
  rejected_still : (taken : List (List ℕ)) (v : ℕ) (l t : List ℕ) → good (f taken t) ≡ false → good (f (taken_next v l taken) t) ≡ false
  unfolding Judges
  rejected_still taken v l t h = rw (next taken v l t) (still (own t) _ _ (rw (j taken t) at h))

  -- and so will one that was judged
  rejected_again : (taken : List (List ℕ)) (t : List ℕ) → good (f (taken_next (f taken t) t taken) t) ≡ false
  unfolding Judges
  rejected_again taken t = rw (next taken (f taken t) t t, eqs_refl (key t), j taken t) (again (own t) (mem (key t) (map key taken)))

  -- every text judged already, and those are `before`, would be rejected
  abbrev Rejects : List (List ℕ) → List (List ℕ) → Type 0
  Rejects before taken = (t : List ℕ) → mem t before ≡ true → good (f taken t) ≡ false

  rejects_next : (before taken : List (List ℕ)) (l : List ℕ) → Rejects before taken → Rejects (before ++ l ∷ []) (taken_next (f taken l) l taken)
  rejects_next before taken l r t m = go (eqs t l) refl
    where
      go : (b : Bool) → eqs t l ≡ b → good (f (taken_next (f taken l) l taken) t) ≡ false
      go true e = rw (eqs_true t l e) (rejected_again taken l)
      go false e = rejected_still taken (f taken l) l t (r t (mem_some t before l m e))

  firsts_from_lem : (before taken ts : List (List ℕ)) → Rejects before taken → firsts_from before ts (scan f taken ts) ≡ true
  unfolding scan firsts_from
  firsts_from_lem before taken [] r = refl
  firsts_from_lem before taken (t ∷ ts) r =
      firsts_more before t ts (f taken t) _ (r t) (firsts_from_lem (before ++ t ∷ []) (taken_next (f taken t) t taken) ts (rejects_next before taken t r))

  module _ (ts : List (List ℕ)) where
    -- the verdicts of lines of these texts, judged from the first to the last
    abbrev vs : List ℕ
    vs = scan f [] ts

    -- T14: a taken line is the first of its text
    pub taken_first : firsts ts vs ≡ true
    unfolding firsts mem
    taken_first = firsts_from_lem [] [] ts (λ t h. absurd (false≢true h))

    -- so of equal texts each but the first is rejected, whatever became of the first
    pub later_rejected : (i k : ℕ) → i < k → k < length ts → get_or ts i [] ≡ get_or ts k [] → good (get_or vs k 0) ≡ false
    later_rejected = firsts_later ts vs (length_scan f [] ts) taken_first

    -- T11: what is read off the lines rejected is what was judged
    pub marks_judged : marks ts (pick bad vs ts) ≡ map mark vs
    marks_judged = marks_is ts vs (length_scan f [] ts) taken_first

    -- the lines rejected are the lines left
    pub left_judged : left ts (pick bad vs ts) ≡ pick bad vs ts
    left_judged = left_is ts vs (length_scan f [] ts) taken_first

    -- with the reasons, the same verdicts
    pub told_judged : told (marks ts (pick bad vs ts)) (pick bad vs vs) ≡ vs
    told_judged = told_marks ts vs (length_scan f [] ts) taken_first

-- ---- lines that are made of their texts

module _ (f : List (List ℕ) → List ℕ → ℕ) (line : List ℕ → List ℕ) where
  -- f, of texts
  unfoldable pub of_texts : List (List ℕ) → List ℕ → ℕ
  of_texts taken t = f (map line taken) (line t)

  next_map : (v : ℕ) (t : List ℕ) (taken : List (List ℕ)) → taken_next v (line t) (map line taken) ≡ map line (taken_next v t taken)
  unfolding taken_next
  next_map v t taken = sym (map-append line taken (onto (good v) t []) ∙ rw (map_onto line (good v) t []))

  pub scan_lines : (taken ts : List (List ℕ)) → scan f (map line taken) (map line ts) ≡ scan of_texts taken ts
  unfolding scan of_texts
  scan_lines taken [] = refl
  scan_lines taken (t ∷ ts) =
      rw (next_map (f (map line taken) (line t)) t taken)
      (ap (λ (vs : List ℕ). f (map line taken) (line t) ∷ vs) (scan_lines (taken_next (f (map line taken) (line t)) t taken) ts))

  pub judges_texts : (own : List ℕ → ℕ) (key : List ℕ → List ℕ) → Judges own key f → Judges (λ t. own (line t)) (λ t. key (line t)) of_texts
  unfolding Judges of_texts
  judges_texts own key j taken t = j (map line taken) (line t) ∙ rw (both taken)
    where
      both : (us : List (List ℕ)) → map key (map line us) ≡ map (λ (u : List ℕ). key (line u)) us
      both [] = refl
      both (u ∷ us) = ap (λ (ks : List (List ℕ)). key (line u) ∷ ks) (both us)

  -- T14 of lines: so marks_is, left_is and told_marks hold of their verdicts
  pub lines_first : (own : List ℕ → ℕ) (key : List ℕ → List ℕ) → Judges own key f → (ts : List (List ℕ)) → firsts ts (scan f [] (map line ts)) ≡ true
  lines_first own key j ts = rw (scan_lines [] ts) (taken_first (λ t. own (line t)) (λ t. key (line t)) of_texts (judges_texts own key j) ts)
