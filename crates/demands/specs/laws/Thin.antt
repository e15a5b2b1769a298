-- Which full lists are refused as too thin, and what a list that is not leaves of the records held. Assumes nothing.
use Rattle.std.specs.Prelude.{◌≡◌, Bool, cond, ◌&&◌, ◌||◌, ℕ, zero, suc, ◌*◌, ◌≤◌, ◌<◌, eqb, ltb, get_or}
use Rattle.std.proofs.Math.Path.{refl, sym}
use Rattle.std.proofs.Common.{◌∙◌, true≢false, eqb-true, ltb-false}
use Rattle.std.proofs.Math.Bool.{true, false, not}
use mathlib.Core.List.{List, [], ◌∷◌, ◌++◌, map}
use native.Mathlib.Omega.{arith}
use Rattle.std.proofs.Math.ListN.{length, length-append, length-map}
use Rattle.theory.specs.laws.Truth.{and_none}
use Rattle.theory.specs.First.{Rule, None, first, choose}
use Rattle.theory.specs.laws.First.{first_none, numbered_by, first_passes}
use Rattle.theory.specs.Same.{eqs}
use Rattle.theory.specs.laws.Same.{eqs_true}
use Rattle.theory.specs.Walk.{some}
use Rattle.theory.specs.Keep.{onto, sift}
use Rattle.theory.specs.Pick.{good, bad, pick}
use Rattle.theory.specs.Tally.{tally}
use Rattle.theory.specs.laws.Tally.{tallies}
use Rattle.sizes.specs.Sizes.{full}
use Rattle.sizes.specs.Modes.{is_full}
use Rattle.columns.specs.Columns.{pan_of}
use Rattle.records.specs.Slot.{slot_of}
use Rattle.header.specs.Header.{sender}
use Rattle.hgv.specs.Layout.{lines_in, lines_of}
use Rattle.hgv.specs.laws.Layout.{length_lines}
use Rattle.slots.specs.Slots.{slots_in, records}
use Rattle.slots.specs.Search.{holds_pan, of_actor, holds_foreign, held_by_another, count_of}
use Rattle.verdicts.specs.Verdict.{own_rules, verdict_rules, taken}
use Rattle.holdings.specs.Holdings.{stored_all, others, replaced_all, holdings}
use Rattle.holdings.specs.laws.Storing.{all_grows}
use Rattle.thinness.specs.Thin.{thin}
use Rattle.thinness.specs.laws.Thin.{thin_so, thin_only, thick_half}
use Rattle.stops.specs.Stops.{form_stops, form_stop}
use Rattle.stops.specs.laws.Clear.{clear}
use Rattle.imports.specs.Imported.{Imported}
use Rattle.imports.specs.Handed.{Handed}
use Rattle.imports.specs.Import.{judged, file_stamp, following, confirmed, judged_stops, import_number, timed}
use Rattle.importer.specs.Promises.{Import}
use Rattle.imports.specs.laws.Numbers.{Formed, number_judged, accepted_clear}
use Rattle.imports.specs.laws.Accepted.{lines_his}
use Rattle.imports.specs.laws.Thin.{length_taken}
use Rattle.imports.proofs.Room.{accepted_passed, never_both}
use Rattle.imports.proofs.Follows.{fit}
use Rattle.provider.specs.Counted.{Counted}
use Rattle.updating.specs.Sent.{Sent}
use Rattle.copies.specs.Copy.{copy_stops}
use Rattle.updating.specs.Update.{receipt_stops, update_number}
use Rattle.updating.specs.Promises.{Update}
use Rattle.demands.specs.Verdicts.{Verdicts}
use Rattle.demands.specs.laws.Own.{count_sift, sift_holdings, sift_stays}
use Rattle.demands.specs.laws.Judging.{judged_is}
use Rattle.demands.specs.laws.Imports.{number_is, number_0, judged_number, form_none, form_clear, refused_register}
use Rattle.demands.specs.laws.Answered.{update_is}
use Rattle.demands.specs.laws.Exact as exact

-- ---- 35 is answered exactly where a full list is too thin

module _ (f : Handed) (register : List ℕ) (r : Imported) (b g : List ℕ) (o : Import f register r b g) where
  abbrev from : List ℕ
  from = sender f.hgv

  abbrev fs : List Rule
  fs = form_stops f.mode (timed f) register f.rows f.hgv

  module _ (vs : List ℕ) (v : Verdicts f.rows from (records register) (lines_of f.hgv) vs) where
    verdicts_are : judged register f.rows f.hgv ≡ vs
    verdicts_are = judged_is register f.rows f.hgv vs v

    abbrev is_thin : Bool
    is_thin = thin f.mode from (records register) (tally good vs)

    clear_form : None fs → Formed f register
    unfolding form_stop
    clear_form n = clear f.mode (timed f) register f.rows f.hgv (first_none n)

    pub stopped_so : None fs → f.mode ≡ full → 2 * tally good vs < count_of from (records register) → r.number ≡ 35
    unfolding judged_stops first choose
    stopped_so n m l =
        number_is f register r b g o
        ∙ sym (number_judged f register (clear_form n) 35 (sym (rw (verdicts_are, thin_so f.mode from (records register) (tally good vs) m l))))

    pub empty_stops : None fs → f.mode ≡ full → lines_in f.hgv ≡ 0 → 0 < count_of from (records register) → r.number ≡ 35
    empty_stops n m z l = stopped_so n m (omega (arith, l, z, tallies vs, v.for_each, length_lines f.hgv))

    is_thin_lem : r.number ≡ 35 → is_thin ≡ true
    unfolding judged_stops first choose
    is_thin_lem e = go is_thin (ltb (slots_in register) (length (following f register))) (ltb (length f.hgc) (length (confirmed f register))) (rw verdicts_are at (judged_number f register r b g o 35 (omega arith) e))
      where
        go : (t s u : Bool) → choose t 35 (choose s 33 (choose u 34 0)) ≡ 35 → t ≡ true
        go true s u k = refl
        go false true u k = absurd (omega arith)
        go false false true k = absurd (omega arith)
        go false false false k = absurd (omega arith)

    pub stopped_only : r.number ≡ 35 → None fs × ((f.mode ≡ full) × (2 * tally good vs < count_of from (records register)))
    stopped_only e = (form_none f register r b g o 35 (omega arith) e, thin_only f.mode from (records register) (tally good vs) (is_thin_lem e))

    pub has_room : r.number ≡ 35 → length (holdings f.mode from (slot_of (file_stamp f)) (records register) (pick good vs (lines_of f.hgv))) ≤ slots_in register
    unfolding following taken
    has_room e =
        rw verdicts_are at (ltb-false (slots_in register) (length (following f register)) (never_both f register (form_clear f register r b g o 35 (omega arith) e) (rw verdicts_are (is_thin_lem e))))

-- ---- what an import leaves of the records held for an actor

-- nothing stops the import
module _ (f : Handed) (register : List ℕ) (e : import_number f register ≡ 0) where
  abbrev his : List ℕ
  his = sender f.hgv

  abbrev ls : List (List ℕ)
  ls = taken (judged register f.rows f.hgv) f.hgv

  abbrev xs : List (List ℕ)
  xs = map (slot_of (file_stamp f)) ls

  c : Formed f register
  c = accepted_clear f register e

  -- of the sender's, half at least: a full list that is not too thin replaces them, an incremental one takes none away
  sender_half : count_of his (records register) ≤ 2 * length (sift (of_actor his) (following f register))
  unfolding following holdings replaced_all is_full
  sender_half =
      rw (sift_holdings f.mode his (slot_of (file_stamp f)) (slots_in register) (records register) ls (fit f register e) (lines_his f register c))
      (go (is_full f.mode) refl)
    where
      go : (t : Bool) → is_full f.mode ≡ t → count_of his (records register) ≤ 2 * length (cond t (others his (sift (of_actor his) (records register)) ++ xs) (stored_all (sift (of_actor his) (records register)) xs))
      go true m =
          omega (
            arith,
            thick_half f.mode his (records register) (tally good (judged register f.rows f.hgv)) (eqb-true f.mode full m) (accepted_passed f register e).thick,
            length-append (others his (sift (of_actor his) (records register))) xs,
            length-map ls (slot_of (file_stamp f)),
            length_taken f register c,
          )
      go false m = omega (arith, count_sift his (records register), all_grows xs (sift (of_actor his) (records register)))

module _ (f : Handed) (register : List ℕ) (r : Imported) (b g : List ℕ) (o : Import f register r b g) where
  accepted_half : r.number ≡ 0 → (who : List ℕ) → count_of who (records register) ≤ 2 * count_of who (records b)
  accepted_half z who = go (eqs (sender f.hgv) who) refl
    where
      e : import_number f register ≡ 0
      e = number_0 f register r b g o z

      go : (t : Bool) → eqs (sender f.hgv) who ≡ t → count_of who (records register) ≤ 2 * count_of who (records b)
      go true s = rw (← eqs_true (sender f.hgv) who s, count_sift (sender f.hgv) (records b), (exact.holds f register r b g o z).held) (sender_half f register e)
      go false d =
          rw (count_sift who (records b), sift_stays who (sender f.hgv) (records b) (records register) d (exact.others_are f register r b g o z), ← count_sift who (records register))
          (omega arith)

  pub half_left : (who : List ℕ) → count_of who (records register) ≤ 2 * count_of who (records b)
  half_left who = go r.number refl
    where
      go : (n : ℕ) → r.number ≡ n → count_of who (records register) ≤ 2 * count_of who (records b)
      go zero z = accepted_half z who
      go (suc n) k = rw (refused_register f register r b g o (λ z. omega arith)) (omega arith)

-- ---- the update asks no such thing

pub update_unasked : (s : Sent) (copy : List ℕ) (r : Counted) (c : List ℕ) → Update s copy r c → r.number ≡ 35 → ⊥
unfolding update_number copy_stops receipt_stops numbered_by bad
update_unasked s copy r c o e =
    true≢false (sym (first_passes (λ n. not (eqb n 35)) (copy_stops s.mode copy s.hgv ++ receipt_stops s copy) refl (rw number refl)) ∙ rw number refl)
  where
    number : first (copy_stops s.mode copy s.hgv ++ receipt_stops s copy) ≡ 35
    number = sym (update_is s copy r c o) ∙ e

-- ---- verdicts do not look at the sender's own records

module _ (from : List ℕ) where
  another_others : (pan : List ℕ) (R : List (List ℕ)) → held_by_another pan from (others from R) ≡ held_by_another pan from R
  unfolding held_by_another some holds_foreign others sift onto
  another_others pan [] = refl
  another_others pan (x ∷ R) = go (of_actor from x) refl (another_others pan R)
    where
      go : (t : Bool) → of_actor from x ≡ t → some (holds_foreign pan from) (others from R) ≡ some (holds_foreign pan from) R
          → some (holds_foreign pan from) (onto (not t) x (others from R)) ≡ (holds_pan pan x && not t) || some (holds_foreign pan from) R
      go true h ih = ih ∙ rw (and_none (holds_pan pan x) false refl)
      go false h ih = rw (h, ih)

  pub own_unseen : (rows : List ℕ) (R ls : List (List ℕ)) (vs : List ℕ) → Verdicts rows from (others from R) ls vs → Verdicts rows from R ls vs
  unfolding verdict_rules own_rules
  own_unseen rows R ls vs v =
      record {
        for_each = v.for_each;
        first_that_fits = λ i l. v.first_that_fits i l ∙ rw (another_others (pan_of (get_or ls i [])) R);
      }
