-- L12 by flags: the flag at the first line that has a PAN says whether a taken line has it. Assumes nothing.
use Rattle.std.specs.Prelude.{◌≡◌, Bool, true, ◌&&◌, ◌||◌, get_or, set, replicate}
use Rattle.std.proofs.Math.Path.{refl, sym}
use Rattle.std.proofs.Common.{◌∙◌, true≢false, arith, get_or-set_other}
use Rattle.std.proofs.Math.Bool.{false}
use mathlib.Core.List.{List, [], ◌∷◌}
use Prim.Native.Nat.{ℕ, ◌+◌, ◌<◌}
use Rattle.std.proofs.Math.ListN.{length, length-set, get_or-replicate}
use Rattle.std.proofs.lemmas.List.{length-replicate, take-set-le}
use Rattle.std.proofs.Math.Seq.{get_or-set_same}
use Rattle.theory.specs.laws.Truth.{and_none, and_true, or_false}
use Rattle.theory.specs.Same.{eqs}
use Rattle.theory.specs.laws.Same.{eqs_true, eq_eqs}
use Rattle.theory.specs.Keep.{onto}
use Rattle.theory.specs.Walk.{some}
use Rattle.theory.specs.laws.Walk.{some_append}
use Rattle.theory.specs.Parts.{chop, part_at}
use Rattle.theory.specs.laws.Parts.{length_chop}
use Rattle.theory.specs.laws.Join.{chop_snoc}
use Rattle.theory.specs.Pick.{good, pick}
use Rattle.theory.specs.laws.Pick.{pick_next, pick_take}
use Rattle.slots.specs.Search.{holds_pan}
use Rattle.flagging.specs.laws.Firsts.{pan_at, first_at, first_within, same_first, first_same}

-- a taken line among the first i has this PAN
unfoldable pub named : ℕ → List ℕ → List ℕ → ℕ → List ℕ → Bool
named width lines vs i pan = some (holds_pan pan) (pick good vs (chop width i lines))

-- for each of n lines, the flag at the first that has its PAN says whether a taken line among the first i has it
pub record Flagged (width : ℕ) (lines : List ℕ) (n : ℕ) (vs : List ℕ) (i : ℕ) (flags : List Bool) : Type 0 where
  pub size : length flags ≡ n
  pub flag : (j : ℕ) → j < n → get_or flags (first_at width lines n j) false ≡ named width lines vs i (pan_at width lines j)

some_one : (q : List ℕ → Bool) (b : Bool) (x : List ℕ) → some q (onto b x []) ≡ b && q x
unfolding some onto
some_one q true x = or_false (q x)
some_one q false x = refl

module _ (width : ℕ) (lines : List ℕ) where
  -- one more line judged
  named_next : (vs : List ℕ) (i v : ℕ) (pan : List ℕ) → i < length vs
      → named width lines (set vs i v) (i + 1) pan ≡ named width lines vs i pan || (good v && eqs (pan_at width lines i) pan)
  unfolding named holds_pan pan_at
  named_next vs i v pan h =
      let xs : List (List ℕ) = chop width i lines in
      let x : List ℕ = part_at width i lines in
      let k : length xs ≡ i = length_chop width i lines in
      let l : length xs < length (set vs i v) = rw (k, length-set vs i v) h in
      let e : pick good (set vs i v) xs ≡ pick good vs xs = sym (pick_take good i (set vs i v) xs k) ∙ rw (take-set-le i vs i v (omega arith)) (pick_take good i vs xs k) in
      rw (
        chop_snoc width i lines,
        pick_next good (set vs i v) xs x l,
        k,
        get_or-set_same vs i v 0 h,
        e,
        some_append (holds_pan pan) (pick good vs xs) (onto (good v) x []),
        some_one (holds_pan pan) (good v) x,
      )

  pub flagged_start : (n : ℕ) (vs : List ℕ) (flags : List Bool) → flags ≡ replicate n false → Flagged width lines n vs 0 flags
  unfolding named chop pick some
  flagged_start n vs flags e =
      record {
        size = rw e (length-replicate n false);
        flag = λ j l. rw (e, get_or-replicate {A = Bool} n (first_at width lines n j) false false (omega (arith, first_within width lines n j l))) (sym (nothing (pan_at width lines j) vs));
      }
    where
      nothing : (t us : List ℕ) → some (holds_pan t) (pick good us []) ≡ false
      nothing t [] = refl
      nothing t (u ∷ us) = refl

  module _ (n : ℕ) (vs : List ℕ) (i : ℕ) (flags : List Bool) (g : Flagged width lines n vs i flags) (h : i < n) where
    pub flag_within : first_at width lines n i < length flags
    flag_within = omega (arith, g.size, first_within width lines n i h)

    abbrev pan : ℕ → List ℕ
    pan = pan_at width lines

    abbrev at : ℕ → ℕ
    at = first_at width lines n

    -- v is the line's verdict, a the place of the first that has its PAN, and m the flag that stands there from now on
    pub flagged_turn : i < length vs → (v a : ℕ) (m : Bool) → a ≡ first_at width lines n i → m ≡ get_or flags a false || good v
        → Flagged width lines n (set vs i v) (i + 1) (set flags a m)
    flagged_turn l v a m p q = record { size = length-set flags a m ∙ g.size; flag = λ j k. go j k (eqs (pan i) (pan j)) refl }
      where
        go : (j : ℕ) → j < n → (r : Bool) → eqs (pan i) (pan j) ≡ r → get_or (set flags a m) (at j) false ≡ named width lines (set vs i v) (i + 1) (pan j)
        go j k true e =
            let s : at j ≡ a = sym (p ∙ same_first width lines n i j (eqs_true (pan i) (pan j) e)) in
            let u : a < length flags = rw p flag_within in
            rw (s, get_or-set_same flags a m false u, named_next vs i v (pan j) l, e, and_true (good v), ← g.flag j k, s) q
        go j k false e =
            let s : at j ≡ a → ⊥ = λ x. true≢false (sym (eq_eqs (pan i) (pan j) (first_same width lines n i j h k (sym p ∙ sym x))) ∙ e) in
            rw (get_or-set_other flags a (at j) m false s, named_next vs i v (pan j) l, e, and_none (good v) false refl, g.flag j k) (sym (or_false _))
