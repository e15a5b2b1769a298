-- Where the PANs of the lines that are still to be stored stand, told by numbers that were found before the first was.
-- Assumes nothing.
use Rattle.std.specs.Prelude.{◌≡◌, refl, Bool, List, map, ℕ, zero, suc, ◌+◌, ◌-◌, ◌≤◌, ◌<◌, length, get_or}
use Rattle.std.proofs.Common.{◌∙◌, add-zero, arith}
use Rattle.std.proofs.Math.Bool.{true, false}
use Rattle.std.proofs.lemmas.Bool.{false≢true}
use Rattle.theory.specs.Same.{eqs}
use Rattle.theory.specs.Each.{Each}
use Rattle.theory.specs.laws.Each.{each_head, each_tail}
use Rattle.theory.specs.Keep.{onto}
use Rattle.theory.specs.Parts.{part_at}
use Rattle.theory.specs.Pick.{good}
use Rattle.theory.specs.Distinct.{distinct}
use Rattle.theory.specs.laws.Distinct.{distinct_head, distinct_tail}
use Rattle.theory.specs.laws.Among.{taken_from, taken_start, taken_step}
use Rattle.columns.specs.Columns.{pan_of}
use Rattle.taken.specs.Taken.{taken_in}
use Rattle.holdings.specs.Holdings.{stored}
use Rattle.holdings.specs.laws.Storing.{stored_grows, held_other, place_other, apart}
use Rattle.storing.specs.CanStore.{Stands}
use Rattle.storing.specs.laws.Steps.{stored_if}

-- a record with another PAN changes nothing of it
stands_stored : (x pan : List ℕ) (R : List (List ℕ)) (n f : ℕ) → eqs (pan_of x) pan ≡ false → n ≤ length R → Stands n R pan f → Stands n (stored x R) pan f
stands_stored x pan R n f h l s =
    record {
      held = λ k. place_other pan x R h (omega (arith, s.held k)) ∙ s.held k;
      new = λ k. held_other pan x R h ∙ s.new k;
    }

-- ---- the lines taken from the place i on

module _ (q : List ℕ → Type 0) where
  head_onto : (t : Bool) (x : List ℕ) (xs : List (List ℕ)) → t ≡ true → Each q (onto t x xs) → q x
  unfolding onto
  head_onto true x xs h e = each_head e
  head_onto false x xs h e = absurd (false≢true h)

  tail_onto : (t : Bool) (x : List ℕ) (xs : List (List ℕ)) → Each q (onto t x xs) → Each q xs
  unfolding onto
  tail_onto true x xs e = each_tail e
  tail_onto false x xs e = e

module _ (width : ℕ) (vs lines : List ℕ) where
  abbrev taken_at : ℕ → List (List ℕ)
  taken_at = taken_from width (length vs) vs lines

  abbrev line_at : ℕ → List ℕ
  line_at = λ i. part_at width i lines

  taken_here : (i : ℕ) → i < length vs → taken_at i ≡ onto (good (get_or vs i 0)) (line_at i) (taken_at (i + 1))
  taken_here i h = taken_step width (length vs) vs lines i h h

  -- what each of them has, the one d places behind has
  each_behind : (q : List ℕ → Type 0) (d i : ℕ) → i + d < length vs → good (get_or vs (i + d) 0) ≡ true → Each q (taken_at i) → q (line_at (i + d))
  each_behind q zero i l g e =
      rw add-zero (head_onto q (good (get_or vs i 0)) (line_at i) (taken_at (i + 1)) (rw add-zero at g) (rw (taken_here i (omega arith)) at e))
  each_behind q (suc d) i l g e =
      let k : i + 1 + d ≡ i + suc d = omega arith in
      let r : Each q (taken_at (i + 1)) = tail_onto q (good (get_or vs i 0)) (line_at i) (taken_at (i + 1)) (rw (taken_here i (omega arith)) at e) in
      rw k at (each_behind q d (i + 1) (omega arith) (rw (← k) at g) r)

  each_at : (q : List ℕ → Type 0) (i j : ℕ) → i ≤ j → j < length vs → good (get_or vs j 0) ≡ true → Each q (taken_at i) → q (line_at j)
  each_at q i j h l g e = let k : i + (j - i) ≡ j = omega arith in rw k at (each_behind q (j - i) i (omega arith) (rw (← k) at g) e)

  -- what each taken line has, the one at the place j has
  pub each_taken : (q : List ℕ → Type 0) (j : ℕ) → j < length vs → good (get_or vs j 0) ≡ true → Each q (taken_in width vs lines) → q (line_at j)
  each_taken q j l g e = each_at q 0 j (omega arith) l g (rw (taken_start width (length vs) vs lines) at e)

  -- `found` tells where the PAN of each of them stands, and no two have one
  pub record Standing (n : ℕ) (R : List (List ℕ)) (found : List ℕ) (i : ℕ) : Type 0 where
    pub fewer : n ≤ length R
    pub apart : distinct (map pan_of (taken_at i)) ≡ true
    pub stands : (j : ℕ) → i ≤ j → j < length vs → good (get_or vs j 0) ≡ true → Stands n R (pan_of (line_at j)) (get_or found j 0)

  module _ (n : ℕ) (R : List (List ℕ)) (found : List ℕ) (i : ℕ) (s : Standing n R found i) (h : i < length vs) where
    -- x is the record of the line at i, stored where t says so
    pub standing_turn : (t : Bool) → t ≡ good (get_or vs i 0) → (x : List ℕ) → (t ≡ true → pan_of x ≡ pan_of (line_at i)) → Standing n (stored_if t x R) found (i + 1)
    unfolding stored_if onto
    standing_turn t e x p = go t e p (rw (taken_here i h, ← e) at s.apart)
      where
        go : (t : Bool) → t ≡ good (get_or vs i 0) → (t ≡ true → pan_of x ≡ pan_of (line_at i)) → distinct (map pan_of (onto t (line_at i) (taken_at (i + 1)))) ≡ true → Standing n (stored_if t x R) found (i + 1)
        go true e p d =
            let others : Each (λ y. eqs (pan_of (line_at i)) (pan_of y) ≡ false) (taken_at (i + 1)) = apart (line_at i) (taken_at (i + 1)) (distinct_head (pan_of (line_at i)) (map pan_of (taken_at (i + 1))) d) in
            record {
              fewer = omega (arith, s.fewer, stored_grows x R);
              apart = distinct_tail (pan_of (line_at i)) (map pan_of (taken_at (i + 1))) d;
              stands = λ j k m g. stands_stored x (pan_of (line_at j)) R n (get_or found j 0) (rw (p refl) (each_at (λ y. eqs (pan_of (line_at i)) (pan_of y) ≡ false) (i + 1) j k m g others)) s.fewer (s.stands j (omega arith) m g);
            }
        go false e p d = record { fewer = s.fewer; apart = d; stands = λ j k m g. s.stands j (omega arith) m g }
