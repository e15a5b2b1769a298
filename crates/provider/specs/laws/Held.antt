-- What an HGC has that holds: its marks say which lines were taken, and those can be applied to the sender's copy.
-- Assumes nothing.
use Rattle.std.specs.Prelude.{◌≡◌, Bool, true, false, not, ◌&&◌, List, map, ℕ, ◌≤◌}
use Rattle.std.proofs.Common.{sym, ◌∙◌, arith}
use Rattle.std.proofs.Math.Path.{ap}
use Rattle.std.proofs.Math.ListN.{length, length-map}
use Rattle.std.proofs.lemmas.Bool.{not-false}
use Rattle.theory.specs.Same.{eqs}
use Rattle.theory.specs.laws.Same.{eqs_true}
use Rattle.theory.specs.laws.Truth.{and_left, and_right}
use Rattle.theory.specs.Distinct.{distinct}
use Rattle.theory.specs.Each.{Each}
use Rattle.theory.specs.Walk.{each}
use Rattle.theory.specs.laws.Parts.{length_chop}
use Rattle.theory.specs.Pick.{good, bad}
use Rattle.theory.specs.Tally.{tally}
use Rattle.theory.specs.laws.Tally.{tally_pick}
use Rattle.times.specs.Time.{real_time}
use Rattle.columns.specs.Columns.{pan_of}
use Rattle.stamps.specs.Stamp.{stamp}
use Rattle.records.specs.Slot.{slot_of, storable}
use Rattle.records.specs.laws.Stamped.{each_storable}
use Rattle.upkeep.specs.Makes.{Makes}
use Rattle.upkeep.specs.laws.Makes.{each_makes}
use Rattle.header.specs.Header.{sender, list_sequence, header_holds}
use Rattle.header.specs.laws.Header.{header_list}
use Rattle.hgv.specs.Layout.{width_of, lines_in, lines_of}
use Rattle.hgv.specs.laws.Layout.{length_lines}
use Rattle.pairing.specs.Pairing.{left}
use Rattle.pairing.specs.Backwards.{paired}
use Rattle.pairing.specs.laws.Pairing.{length_marks}
use Rattle.texts.specs.Field.{field}
use Rattle.answers.specs.Layout.{answers_in, answers_of, list_of, reception_of}
use Rattle.receipts.specs.Receipt.{reason_holds, texts_of, copies_of, marks_of, taken_by, form_holds, names_hold, outcome_holds, says_hold, lines_hold, receipt_holds}
use Rattle.matching.specs.laws.Matching.{Held, held, taken_marks, taken_count as count_taken}

module _ (h g : List ℕ) where
  pub length_marks_of : length (marks_of h g) ≡ lines_in h
  unfolding marks_of texts_of
  length_marks_of = length_marks (texts_of h) (copies_of h g) ∙ length-map (lines_of h) _ ∙ length_lines h

  -- a 0 for each taken line
  pub taken_count : (ms : List ℕ) → ms ≡ marks_of h g → tally good ms ≡ length (taken_by h g)
  taken_count ms e = rw e (count_taken h g)

  module _ (r : receipt_holds h g ≡ true) where
    says : says_hold h g ≡ true
    unfolding receipt_holds
    says = and_left (says_hold h g) (lines_hold h g) r

    lines : lines_hold h g ≡ true
    unfolding receipt_holds
    lines = and_right (says_hold h g) (lines_hold h g) r

    -- in front of the reasons
    fronted : ((form_holds h g && names_hold h g) && real_time (reception_of g)) && outcome_holds h g ≡ true
    unfolding says_hold
    fronted = and_left (((form_holds h g && names_hold h g) && real_time (reception_of g)) && outcome_holds h g) (each (reason_holds (width_of h)) (answers_of h g)) says

    pub reasons_held : each (reason_holds (width_of h)) (answers_of h g) ≡ true
    unfolding says_hold
    reasons_held = and_right (((form_holds h g && names_hold h g) && real_time (reception_of g)) && outcome_holds h g) (each (reason_holds (width_of h)) (answers_of h g)) says

    named : (form_holds h g && names_hold h g) && real_time (reception_of g) ≡ true
    named = and_left ((form_holds h g && names_hold h g) && real_time (reception_of g)) (outcome_holds h g) fronted

    pub received_held : real_time (reception_of g) ≡ true
    received_held = and_right (form_holds h g && names_hold h g) (real_time (reception_of g)) named

    -- it names the HGV's list
    pub list_held : list_of g ≡ list_sequence h
    unfolding names_hold
    list_held =
        eqs_true (list_of g) (list_sequence h)
        (and_right (eqs (field 8 13 g) (sender h)) (eqs (list_of g) (list_sequence h))
        (and_right (form_holds h g) (names_hold h g) (and_left (form_holds h g && names_hold h g) (real_time (reception_of g)) named)))

    matched : Held h g
    matched = held h g lines

    -- what the pairing wrote are its marks
    pub marks_are : (ms : List ℕ) → ms ≡ paired (texts_of h) (copies_of h g) → ms ≡ marks_of h g
    marks_are ms e = e ∙ taken_marks h g lines

    -- as many lines left as the HGC has
    pub left_count : (ms : List ℕ) → ms ≡ marks_of h g → tally bad ms ≡ answers_in h g
    unfolding copies_of answers_of marks_of left texts_of
    left_count ms e =
        rw e
        (sym (tally_pick bad (marks_of h g) (texts_of h) (length_marks (texts_of h) (copies_of h g)))
        ∙ ap length matched.copies ∙ length-map (answers_of h g) _ ∙ length_chop _ (answers_in h g) _)

    pub taken_apart : distinct (map pan_of (taken_by h g)) ≡ true
    taken_apart = matched.apart

    -- beside a header in form each can be stored under the stamp of the list that the HGC names, and of a real time
    module _ (headed : header_holds h ≡ true) (t : List ℕ) (real : real_time t ≡ true) where
      pub taken_storable : Each (λ l. storable (stamp (list_of g) t) l ≡ true) (taken_by h g)
      taken_storable = each_storable (sender h) (list_of g) t (rw list_held (header_list h headed)) real matched.own matched.records

      pub taken_made : Each (Makes (slot_of (stamp (list_of g) t))) (taken_by h g)
      taken_made = each_makes (stamp (list_of g) t) taken_storable

-- ms are what the pairing wrote beside an HGC that holds
module _ (h g : List ℕ) (k : receipt_holds h g ≡ true) (ms : List ℕ) (em : ms ≡ paired (texts_of h) (copies_of h g)) where
  pub marks_fit : ms ≡ marks_of h g
  marks_fit = marks_are h g k ms em

  pub marks_each : length ms ≡ lines_in h
  marks_each = ap length marks_fit ∙ length_marks_of h g

  pub tell_fits : (each (reason_holds (width_of h)) (answers_of h g) ≡ true) × (tally bad ms ≤ answers_in h g)
  tell_fits = (reasons_held h g k, omega (arith, left_count h g k ms marks_fit))

-- an HGC that is not found wanting holds
pub holds : (h g : List ℕ) (r : Bool) (er : r ≡ receipt_holds h g) (k : not r ≡ false) → receipt_holds h g ≡ true
holds h g r er k = sym er ∙ not-false r k
