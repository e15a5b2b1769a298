-- Laws of lines judged one after the other, each by itself and by those taken before it. Assumes nothing.
use Rattle.std.specs.Prelude.{◌≡◌, false, length, take, get_or, set}
use Rattle.std.proofs.Math.Path.{refl, sym, ap}
use Rattle.std.proofs.Common.{◌∙◌, arith, take_all}
use Rattle.std.proofs.Math.Bool.{true}
use mathlib.Core.List.{List, [], ◌∷◌, ◌++◌, map, append_assoc, append-nil, map-append}
use Prim.Native.Nat.{ℕ, zero, suc, ◌+◌, ◌<◌}
use Rattle.std.proofs.Math.Numerals.{add-one}
use Rattle.std.proofs.Math.Seq.{take-suc-set}
use Rattle.theory.specs.Same.{eqs, mem}
use Rattle.theory.specs.laws.Same.{eqs_sym}
use Rattle.theory.specs.Each.{Each, none, more}
use Rattle.theory.specs.Walk.{some}
use Rattle.theory.specs.Keep.{onto}
use Rattle.theory.specs.laws.Keep.{onto_append, each_onto}
use Rattle.theory.specs.Pick.{good, pick}
use Rattle.theory.specs.laws.Pick.{good_zero, pick_take}
use Rattle.theory.specs.Parts.{chop, part_at}
use Rattle.theory.specs.laws.Parts.{length_chop}
use Rattle.theory.specs.laws.Join.{chop_snoc}
use Rattle.theory.specs.Distinct.{distinct}
use Rattle.theory.specs.laws.Distinct.{distinct_append}
use Rattle.theory.specs.Scan.{taken_next, scan}

-- with those picked of the rest, all that are taken
pub taken_next_lem : (v : ℕ) (l : List ℕ) (taken ps : List (List ℕ)) → taken_next v l taken ++ ps ≡ taken ++ onto (good v) l ps
unfolding taken_next
taken_next_lem v l taken ps = append_assoc taken (onto (good v) l []) ps ∙ ap (λ (ys : List (List ℕ)). taken ++ ys) (onto_append (good v) l [] ps)

module _ (f : List (List ℕ) → List ℕ → ℕ) where
  pub length_scan : (taken ls : List (List ℕ)) → length (scan f taken ls) ≡ length ls
  unfolding scan
  length_scan taken [] = refl
  length_scan taken (l ∷ ls) = ap suc (length_scan (taken_next (f taken l) l taken) ls)

  -- a line at the end changes no verdict before it, and is judged beside those taken of them
  pub scan_next : (taken ls : List (List ℕ)) (l : List ℕ) → scan f taken (ls ++ l ∷ []) ≡ scan f taken ls ++ f (taken ++ pick good (scan f taken ls) ls) l ∷ []
  unfolding scan pick
  scan_next taken [] l = rw (append-nil taken)
  scan_next taken (x ∷ ls) l =
      let t : List (List ℕ) = taken_next (f taken x) x taken in
      rw (← taken_next_lem (f taken x) x taken (pick good (scan f t ls) ls)) (ap (λ (vs : List ℕ). f taken x ∷ vs) (scan_next t ls l))

  -- the first k verdicts are those of the first k lines
  pub scan_take : (k : ℕ) (taken ls : List (List ℕ)) → take k (scan f taken ls) ≡ scan f taken (take k ls)
  unfolding scan
  scan_take zero taken ls = refl
  scan_take (suc k) taken [] = refl
  scan_take (suc k) taken (l ∷ ls) = ap (λ (vs : List ℕ). f taken l ∷ vs) (scan_take k (taken_next (f taken l) l taken) ls)

  -- the verdict at the place i is what f says of its line, beside the lines taken before it
  abbrev Said : List (List ℕ) → List (List ℕ) → List ℕ → ℕ → Type 0
  Said taken ls vs i = get_or vs i 0 ≡ f (taken ++ pick good (take i vs) (take i ls)) (get_or ls i [])

  said : (taken ls : List (List ℕ)) (i : ℕ) → i < length ls → Said taken ls (scan f taken ls) i
  unfolding scan pick
  said taken [] i h = absurd (omega arith)
  said taken (l ∷ ls) zero h = rw (append-nil taken)
  said taken (l ∷ ls) (suc i) h =
      let t : List (List ℕ) = taken_next (f taken l) l taken in
      rw (← taken_next_lem (f taken l) l taken (pick good (take i (scan f t ls)) (take i ls))) (said t ls i (omega arith))

  only_said : (taken ls : List (List ℕ)) (vs : List ℕ) → length vs ≡ length ls → ((i : ℕ) → i < length ls → Said taken ls vs i) → vs ≡ scan f taken ls
  unfolding scan pick
  only_said taken [] [] e g = refl
  only_said taken [] (v ∷ vs) e g = absurd (omega arith)
  only_said taken (l ∷ ls) [] e g = absurd (omega arith)
  only_said taken (l ∷ ls) (v ∷ vs) e g =
      let h : v ≡ f taken l = rw (append-nil taken) at (g 0 (omega arith)) in
      rw (← h)
      (ap (λ (us : List ℕ). v ∷ us)
      (only_said (taken_next v l taken) ls vs (omega arith) (λ i k. rw (taken_next_lem v l taken (pick good (take i vs) (take i ls))) (g (suc i) (omega arith)))))

  -- each verdict is what f says of its line, beside the lines taken before it
  pub scan_at : (ls : List (List ℕ)) (i : ℕ) → i < length ls → get_or (scan f [] ls) i 0 ≡ f (pick good (take i (scan f [] ls)) (take i ls)) (get_or ls i [])
  scan_at ls i h = said [] ls i h

  -- and only these verdicts are
  pub scan_only : (ls : List (List ℕ)) (vs : List ℕ) → length vs ≡ length ls
      → ((i : ℕ) → i < length ls → get_or vs i 0 ≡ f (pick good (take i vs) (take i ls)) (get_or ls i [])) → vs ≡ scan f [] ls
  scan_only ls vs e g = only_said [] ls vs e g

  -- what every verdict has, each of those of the lines has
  pub each_verdict : {q : ℕ → Type 0} → ((taken : List (List ℕ)) (l : List ℕ) → q (f taken l)) → (taken ls : List (List ℕ)) → Each q (scan f taken ls)
  unfolding scan
  each_verdict g taken [] = none
  each_verdict g taken (l ∷ ls) = more (g taken l) (each_verdict g (taken_next (f taken l) l taken) ls)

  -- what follows from the verdict 0 is so of each that is taken
  pub each_scan : {q : List ℕ → Type 0} → ((taken : List (List ℕ)) (l : List ℕ) → f taken l ≡ 0 → q l)
      → (taken ls : List (List ℕ)) → Each q (pick good (scan f taken ls) ls)
  unfolding scan pick
  each_scan g taken [] = none
  each_scan g taken (l ∷ ls) =
      each_onto (good (f taken l)) l _ (λ e. g taken l (good_zero (f taken l) e)) (each_scan g (taken_next (f taken l) l taken) ls)

  -- where the verdict 0 says that none taken before has the line's key, all that are taken differ in it
  pub distinct_scan : (key : List ℕ → List ℕ) → ((taken : List (List ℕ)) (l : List ℕ) → f taken l ≡ 0 → mem (key l) (map key taken) ≡ false)
      → (taken ls : List (List ℕ)) → distinct (map key taken) ≡ true → distinct (map key (taken ++ pick good (scan f taken ls) ls)) ≡ true
  unfolding scan pick distinct taken_next onto good mem
  distinct_scan key g taken [] d = rw (append-nil taken) d
  distinct_scan key g taken (l ∷ ls) d =
      let t : List (List ℕ) = taken_next (f taken l) l taken in
      rw (← taken_next_lem (f taken l) l taken (pick good (scan f t ls) ls)) (distinct_scan key g t ls (one (f taken l) (λ e. g taken l e)))
    where
      one : (v : ℕ) → (v ≡ 0 → mem (key l) (map key taken) ≡ false) → distinct (map key (taken_next v l taken)) ≡ true
      one zero h = rw (map-append key taken (l ∷ [])) (distinct_append (map key taken) (key l ∷ []) d refl (more (h refl) none))
      one (suc v) h = rw (append-nil taken) d

-- one with this key, as a search finds it
pub some_key : (key : List ℕ → List ℕ) (t : List ℕ) (xs : List (List ℕ)) → some (λ x. eqs (key x) t) xs ≡ mem t (map key xs)
unfolding some mem
some_key key t [] = refl
some_key key t (x ∷ xs) = rw (some_key key t xs, eqs_sym (key x) t)

-- ---- a walk that fills a block of verdicts: those of the first i parts stand there

unfoldable pub Judged : (List (List ℕ) → List ℕ → ℕ) → ℕ → List ℕ → ℕ → List ℕ → Type 0
Judged f w b i vs = take i vs ≡ scan f [] (chop w i b)

module _ (f : List (List ℕ) → List ℕ → ℕ) (w : ℕ) (b : List ℕ) where
  pub judged_start : (vs : List ℕ) → Judged f w b 0 vs
  unfolding Judged chop scan
  judged_start vs = refl

  module _ (i : ℕ) (vs : List ℕ) (j : Judged f w b i vs) where
    -- those taken so far, as the walk has them
    taken_are : pick good vs (chop w i b) ≡ pick good (scan f [] (chop w i b)) (chop w i b)
    unfolding Judged
    taken_are = rw (← j) (sym (pick_take good i vs (chop w i b) (length_chop w i b)))

    -- v is the verdict that the walk wrote
    pub judged_turn : i < length vs → (v : ℕ) → v ≡ f (pick good vs (chop w i b)) (part_at w i b) → (vs' : List ℕ) → vs' ≡ set vs i v → Judged f w b (i + 1) vs'
    unfolding Judged
    judged_turn h v e vs' m =
        rw (m, add-one i, take-suc-set vs i v h, j, ← add-one i, chop_snoc w i b, scan_next f [] (chop w i b) (part_at w i b), ← taken_are, ← e)

    pub judged_end : length vs ≡ i → vs ≡ scan f [] (chop w i b)
    unfolding Judged
    judged_end h = sym (take_all i vs (omega arith)) ∙ j
