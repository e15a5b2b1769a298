-- The verdicts of lines without fault of which no two have one PAN, and what becomes of them in a register without records. Assumes
-- nothing.
use Rattle.std.specs.Prelude.{◌≡◌, Bool, take}
use Rattle.std.proofs.Math.Path.{refl}
use Rattle.std.proofs.Common.{ap, ◌∙◌, arith}
use Rattle.std.proofs.Math.Bool.{true, false}
use mathlib.Core.List.{List, [], ◌∷◌, map}
use Prim.Native.Nat.{ℕ, zero, suc, ◌+◌, ◌≤◌, ◌<◌}
use Rattle.std.proofs.Math.ListN.{length, get_or}
use Rattle.theory.specs.laws.Truth.{or_left, or_right, or_both}
use Rattle.theory.specs.Count.{bump}
use Rattle.theory.specs.Same.{eqs, mem}
use Rattle.theory.specs.Each.{Each, none, more}
use Rattle.theory.specs.laws.Each.{each_at, each_from}
use Rattle.theory.specs.Walk.{some}
use Rattle.theory.specs.Distinct.{distinct}
use Rattle.theory.specs.laws.Distinct.{distinct_head, distinct_tail}
use Rattle.theory.specs.Pick.{good, bad}
use Rattle.theory.specs.laws.Pick.{all_pick}
use Rattle.theory.specs.Tally.{tally}
use Rattle.theory.specs.laws.Tally.{tallies}
use Rattle.theory.specs.First.{choose}
use Rattle.theory.specs.laws.First.{otherwise}
use Rattle.columns.specs.Columns.{pan_of}
use Rattle.lines.specs.Rules.{line_fault}
use Rattle.slots.specs.Search.{holds_pan, held_by_another}
use Rattle.verdicts.specs.Verdict.{verdict}
use Rattle.verdicts.specs.laws.Verdict.{own_is, verdict_is}
use Rattle.holdings.specs.Holdings.{stored, stored_all}
use Rattle.holdings.specs.Room.{is_new}
use Rattle.holdings.specs.laws.Storing.{length_stored}
use Rattle.demands.specs.Verdicts.{taken_before, Verdicts}

-- ---- no line before one has its PAN

-- a key that none has, the one at a place has not
not_at : (t : List ℕ) (xs : List (List ℕ)) → mem t (map pan_of xs) ≡ false → (i : ℕ) → i < length xs → eqs t (pan_of (get_or xs i [])) ≡ false
unfolding mem
not_at t [] h i l = absurd (omega arith)
not_at t (x ∷ xs) h zero l = or_left (eqs t (pan_of x)) (mem t (map pan_of xs)) h
not_at t (x ∷ xs) h (suc i) l = not_at t xs (or_right (eqs t (pan_of x)) (mem t (map pan_of xs)) h) i (omega arith)

apart_before : (xs : List (List ℕ)) → distinct (map pan_of xs) ≡ true → (i : ℕ) → i < length xs → Each (λ y. holds_pan (pan_of (get_or xs i [])) y ≡ false) (take i xs)
unfolding holds_pan
apart_before [] d i l = absurd (omega arith)
apart_before (x ∷ xs) d zero l = none
apart_before (x ∷ xs) d (suc i) l =
    more (not_at (pan_of x) xs (distinct_head (pan_of x) (map pan_of xs) d) i (omega arith)) (apart_before xs (distinct_tail (pan_of x) (map pan_of xs) d) i (omega arith))

no_some : (q : List ℕ → Bool) {xs : List (List ℕ)} → Each (λ x. q x ≡ false) xs → some q xs ≡ false
unfolding some
no_some q none = refl
no_some q (more h hs) = or_both _ _ h (no_some q hs)

module _ (rows from : List ℕ) (R ls : List (List ℕ)) (vs : List ℕ) (v : Verdicts rows from R ls vs)
    (clean : Each (λ l. line_fault rows from l ≡ 0) ls) (apart : distinct (map pan_of ls) ≡ true) where
  -- 04 where the register holds the PAN under another actor (L11), else 0
  pub verdict_at : (i : ℕ) → i < length ls → get_or vs i 0 ≡ choose (held_by_another (pan_of (get_or ls i [])) from R) 4 0
  unfolding verdict otherwise choose
  verdict_at i h =
      let l : List ℕ = get_or ls i [] in
      let ts : List (List ℕ) = taken_before ls vs i in
      let f : some (holds_pan (pan_of l)) ts ≡ false = no_some (holds_pan (pan_of l)) (all_pick good (take i vs) (apart_before ls apart i h)) in
      v.first_that_fits i h ∙ verdict_is rows from R l ts ∙ rw (own_is rows from R l, each_at clean i [] h, f) (held (held_by_another (pan_of l) from R))
    where
      held : (b : Bool) → otherwise (choose b 4 0) 0 ≡ choose b 4 0
      held true = refl
      held false = refl

  -- so all are taken where it holds none
  module _ (e : R ≡ []) where
    pub each_taken : Each (λ x. x ≡ 0) vs
    unfolding held_by_another some choose
    each_taken = each_from vs 0 (λ i h. verdict_at i (omega (arith, v.for_each)) ∙ rw e)

    pub all_taken : tally good vs ≡ length ls
    unfolding tally good bump
    all_taken = all_good each_taken ∙ v.for_each
      where
        all_good : {us : List ℕ} → Each (λ x. x ≡ 0) us → tally good us ≡ length us
        all_good none = refl
        all_good (more h hs) = rw h (ap suc (all_good hs))

    pub none_rejected : tally bad vs ≡ 0
    none_rejected = omega (arith, tallies vs, all_taken, v.for_each)

-- no more are stored than there are
pub stored_most : (xs R : List (List ℕ)) → length (stored_all R xs) ≤ length R + length xs
unfolding stored_all bump
stored_most [] R = omega arith
stored_most (x ∷ xs) R = omega (arith, stored_most xs (stored x R), one (is_new R x) (length R), length_stored x R)
  where
    one : (b : Bool) (n : ℕ) → bump b n ≤ n + 1
    one true n = omega arith
    one false n = omega arith
