-- What the functions of this crate cite. Assumes nothing.
use mathlib.Core.Path.{◌≡◌, refl, sym, ◌∙◌}
use mathlib.Core.Bool.{Bool, true, false, not, ◌||◌}
use Rattle.std.specs.Prelude.{Result, Ok, Err}
use Rattle.std.specs.Result.{is_ok}
use mathlib.Core.List.{List, map}
use Prim.Native.Nat.{ℕ, ◌+◌, ◌≤◌, ◌<◌}
use native.Mathlib.Omega.{arith}
use lib.ListN.{length, get_or, set, replicate, length-set}
use borrow.Author.Tests.{lt-ltb, le-ltb}
use Rattle.theory.specs.First.{choose, first}
use Rattle.theory.specs.laws.First.{otherwise, otherwise_stands, otherwise_next}
use Rattle.theory.specs.Distinct.{distinct}
use Rattle.theory.specs.Parts.{chop, part_at}
use Rattle.theory.specs.laws.Parts.{length_chop}
use Rattle.theory.specs.laws.Join.{get_d_chop}
use Rattle.theory.specs.Walk.{some}
use Rattle.theory.specs.Pick.{good, pick}
use Rattle.theory.specs.laws.Pick.{good_no}
use Rattle.theory.specs.laws.Scan.{Judged, judged_start, judged_turn, judged_end}
use Rattle.rules.specs.declared.reason.Reason.{Reason}
use Rattle.rules.specs.Numbers.{reason_number, verdict_number}
use Rattle.rules.specs.laws.Numbers.{reason_some}
use Rattle.sizes.specs.Sizes.{slot_length}
use Rattle.columns.specs.Columns.{pan_of}
use Rattle.lines.specs.Rules.{line_fault}
use Rattle.slots.specs.Slots.{slots_in, slots_of}
use Rattle.slots.specs.Search.{holds_pan, place_of, of_actor}
use Rattle.verdicts.specs.Verdict.{own_rules, verdict, verdicts_of}
use Rattle.verdicts.specs.laws.Verdict.{verdict_is}
use Rattle.verdicts.proofs.Laws.{own_held}
use Rattle.flagging.specs.Places.{places_of, firsts_of}
use Rattle.flagging.specs.laws.Places.{places_told, length_places}
use Rattle.flagging.specs.laws.Held.{foreign_at, held_at}
use Rattle.flagging.specs.laws.Firsts.{pan_at, first_at}
use Rattle.flagging.specs.laws.Named.{named, Flagged, flagged_start, flag_within, flagged_turn}

-- ---- one line

module _ (who b : List ℕ) (at : ℕ) where
  pub foreign_none : slots_in b ≤ at → false ≡ foreign_at who (slots_of b) at
  unfolding foreign_at slots_of
  foreign_none h = rw (length_chop slot_length (slots_in b) b, le-ltb at (slots_in b) h)

  -- x is the slot, and h says whether it is the actor's
  pub foreign_slot : at < slots_in b → (x : List ℕ) → x ≡ part_at slot_length at b → (h : Bool) → h ≡ of_actor who x → not h ≡ foreign_at who (slots_of b) at
  unfolding foreign_at slots_of
  foreign_slot l x p h e = rw (length_chop slot_length (slots_in b) b, lt-ltb at (slots_in b) l, get_d_chop slot_length (slots_in b) b at l, ← p, ← e)

-- where L1 to L10 say nothing, what is found at the place of the PAN decides
pub own_placed : (rows from : List ℕ) (R : List (List ℕ)) (l : List ℕ) → line_fault rows from l ≡ 0 → distinct (map pan_of R) ≡ true
    → (at : ℕ) → at ≡ place_of (pan_of l) R → first (own_rules rows from R l) ≡ choose (foreign_at from R at) 4 0
own_placed rows from R l z d at p = own_held rows from R l z ∙ rw (p, held_at (pan_of l) from R d) refl

-- a reason stands, and where there is none the next rule decides
pub stands : (r : Reason) (f m : ℕ) → f ≡ reason_number r → otherwise f m ≡ reason_number r
stands r f m e = rw e (otherwise_stands (reason_number r) m (reason_some r))

pub next : (f m : ℕ) → f ≡ 0 → otherwise f m ≡ m
next f m e = otherwise_next f m e

-- a line is taken where its verdict is 0
pub good_ok : (v : Result Unit Reason) → is_ok v ≡ good (verdict_number v)
unfolding good
good_ok (Ok x) = refl
good_ok (Err r) = sym (good_no (reason_number r) (reason_some r))

-- ---- line after line: the first i of n have their verdicts, and the flags say which PANs are named

pub record Walking (rows from : List ℕ) (R : List (List ℕ)) (width : ℕ) (lines : List ℕ) (n i : ℕ) (flags : List Bool) (vs : List ℕ) : Type 0 where
  pub size : length vs ≡ n
  pub judged : Judged (verdict rows from R) width lines i vs
  pub flagged : Flagged width lines n vs i flags

module _ (rows from : List ℕ) (R : List (List ℕ)) (width : ℕ) (lines : List ℕ) where
  pub walking_start : (flags : List Bool) (vs : List ℕ) → flags ≡ replicate (length vs) false → Walking rows from R width lines (length vs) 0 flags vs
  walking_start flags vs e =
      record { size = refl; judged = judged_start _ _ _ _; flagged = flagged_start width lines (length vs) vs flags e }

  module _ (n i : ℕ) (flags : List Bool) (vs : List ℕ) (w : Walking rows from R width lines n i flags vs) where
    module _ (h : i < n) where
      -- there is a number for the line
      pub walking_read : (S : List (List ℕ)) (found : List ℕ) → found ≡ places_of S width lines n → i < length found
      walking_read S found f = omega (arith, w.size, length_places S width lines n found f)

      -- a is where the line's PAN was found, and x is the line
      pub walking_place : (found : List ℕ) → found ≡ places_of R width lines n → (a : ℕ) → a ≡ get_or found i 0 → (x : List ℕ) → x ≡ part_at width i lines
          → a ≡ place_of (pan_of x) R
      walking_place found f a p x q = p ∙ places_told R width lines n found f i h ∙ rw q

      -- a is the first line that has the line's PAN
      module _ (firsts : List ℕ) (f : firsts ≡ firsts_of width lines n) (a : ℕ) (p : a ≡ get_or firsts i 0) where
        at_first : a ≡ first_at width lines n i
        unfolding first_at pan_at
        at_first = p ∙ places_told (chop width n lines) width lines n firsts f i h

        pub walking_flag : a < length flags
        walking_flag = rw at_first (flag_within width lines n vs i flags w.flagged h)

        -- g is the flag there, x the line, v its verdict, and m the flag after it
        pub walking_turn : (g : Bool) → g ≡ get_or flags a false → (x : List ℕ) → x ≡ part_at width i lines → (v : ℕ)
            → v ≡ otherwise (first (own_rules rows from R x)) (choose g 1 0) → (m : Bool) → m ≡ g || good v
            → Walking rows from R width lines n (i + 1) (set flags a m) (set vs i v)
        unfolding named pan_at
        walking_turn g q x r v e m t =
            let ts : List (List ℕ) = pick good vs (chop width i lines) in
            let k : g ≡ some (holds_pan (pan_of (part_at width i lines))) ts = rw (q, at_first) (w.flagged.flag i h) in
            let d : v ≡ verdict rows from R ts (part_at width i lines) = rw (verdict_is rows from R (part_at width i lines) ts, ← k, ← r) e in
            record {
              size = length-set vs i v ∙ w.size;
              judged = judged_turn (verdict rows from R) width lines i vs w.judged (omega (arith, w.size)) v d (set vs i v) refl;
              flagged = flagged_turn width lines n vs i flags w.flagged h (omega (arith, w.size)) v a m at_first (t ∙ rw q);
            }

    pub walking_end : n ≤ i → i ≤ n → vs ≡ verdicts_of rows from R (chop width n lines)
    unfolding verdicts_of
    walking_end h k =
        let e : i ≡ n = omega arith in
        rw (← e) (judged_end (verdict rows from R) width lines i vs w.judged (omega (arith, w.size)))
