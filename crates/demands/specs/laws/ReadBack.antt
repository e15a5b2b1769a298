-- T11: the HGC of an accepted import, read beside its HGV, holds, and gives the same lines taken, the same reasons and the
-- same counts. Assumes nothing.
use Rattle.std.specs.Prelude.{◌≡◌, true, List, map, ℕ, ◌+◌, ◌≤◌}
use Rattle.std.proofs.Math.Path.{sym, ap}
use Rattle.std.proofs.Common.{◌∙◌, arith}
use Rattle.std.proofs.lemmas.Simd.{map-map}
use Rattle.std.proofs.Math.ListN.{length}
use Rattle.std.proofs.lemmas.List.{length-map}
use borrow.Author.Tests.{eq-eqb}
use Rattle.theory.specs.laws.Each.{each_map, each_both, map_fixed}
use Rattle.theory.specs.Walk.{each}
use Rattle.theory.specs.laws.Walk.{passes_each}
use Rattle.theory.specs.Pick.{good, bad, pick}
use Rattle.theory.specs.laws.Pick.{each_picked}
use Rattle.theory.specs.Tally.{tally}
use Rattle.theory.specs.laws.Tally.{tally_pick, tallies}
use Rattle.numbers.specs.Number.{number, decimal}
use Rattle.numbers.specs.laws.Number.{number_2, number_15}
use Rattle.times.specs.laws.Moment.{real_length}
use Rattle.columns.specs.Columns.{text}
use Rattle.hgv.specs.Layout.{width_of, lines_in, lines_of}
use Rattle.sizes.specs.Sizes.{lines_most}
use Rattle.hgv.specs.laws.Layout.{width_has, length_lines, each_line, lines_most_lem}
use Rattle.hgc.specs.Confirmation.{answers}
use Rattle.hgc.specs.laws.Fields.{reasons_answers}
use Rattle.imports.specs.Handed.{Handed}
use Rattle.pairing.specs.laws.Pairing.{mark, pick_marked, told_is}
use Rattle.pairing.specs.laws.Firsts.{marks_is, left_is}
use Rattle.answers.specs.Layout.{answers_in, answers_of, reception_of, taken_of, rejected_of, reason_of}
use Rattle.receipts.specs.Receipt.{reason_holds, texts_of, marks_of, taken_by, copies_hold, counts_hold, line_holds, taken_hold, says_hold, lines_hold, receipt_holds}
use Rattle.reading.specs.ReadBack.{reasons_of, read_verdicts}
use Rattle.receipts.specs.laws.Written.{same_texts_lem, line_holds_lem, each_answered, answers_in_lem, answers_of_lem, taken_of_lem, rejected_of_lem, form_holds_lem, names_hold_lem, outcome_holds_lem, reception_is, copies_of_lem}
use Rattle.imports.specs.Import.{shown}
use Rattle.imports.specs.laws.Numbers.{Formed, formed_shown}
use Rattle.verdicts.specs.Verdict.{taken}
use Rattle.hgc.specs.Confirmation.{confirmation}
use Rattle.demands.specs.laws.Reasons.{reason_holds_lem}
use Rattle.demands.specs.laws.Sound.{Sound}

module _ (f : Handed) (register vs : List ℕ) (s : Sound f register vs) where
  -- the HGC
  abbrev g : List ℕ
  g = confirmation (shown f) f.hgv vs

  c : Formed f register
  c = s.formed

  dated : length (shown f) ≡ 14
  dated = real_length (shown f) (formed_shown f register c)

  one_each : length vs ≡ lines_in f.hgv
  one_each = s.for_each

  wide : 3 ≤ width_of f.hgv
  wide = width_has f.hgv 3 (omega arith)

  one_text : length vs ≡ length (texts_of f.hgv)
  unfolding texts_of
  one_text = one_each ∙ sym (length-map (lines_of f.hgv) (text (width_of f.hgv)) ∙ length_lines f.hgv)

  -- the reception that the HGC names is the import's, in local time
  pub reception_read : reception_of g ≡ (shown f)
  reception_read = reception_is (shown f) f.hgv vs dated c.sized one_each

  -- ---- which lines were taken

  -- so the HGC's copies say of each line whether it was taken
  pub marks_are : marks_of f.hgv g ≡ map mark vs
  unfolding marks_of
  marks_are = rw (copies_of_lem (shown f) f.hgv vs dated c.sized one_each) (marks_is (texts_of f.hgv) vs one_text s.firsts_taken)

  -- the lines read off as taken are those that were
  pub taken_are : taken_by f.hgv g ≡ taken vs f.hgv
  unfolding taken_by taken
  taken_are = rw marks_are (pick_marked vs (lines_of f.hgv))

  -- the copies are the lines left
  pub copies_hold_lem : copies_hold f.hgv g ≡ true
  unfolding copies_hold
  copies_hold_lem =
      rw (copies_of_lem (shown f) f.hgv vs dated c.sized one_each, left_is (texts_of f.hgv) vs one_text s.firsts_taken) (same_texts_lem (pick bad vs (texts_of f.hgv)))

  -- ---- the counts

  -- as many lines as good verdicts, and as bad ones
  pub count_taken : length (taken_by f.hgv g) ≡ tally good vs
  unfolding taken
  count_taken = ap length taken_are ∙ tally_pick good vs (lines_of f.hgv) (omega (arith, one_each, length_lines f.hgv))

  pub count_rejected : answers_in f.hgv g ≡ tally bad vs
  count_rejected = answers_in_lem (shown f) f.hgv vs dated c.sized one_each

  few : tally good vs + tally bad vs ≤ lines_most
  few = omega (arith, tallies vs, one_each, lines_most_lem f.hgv c.sized)

  -- fifteen digits are enough for both
  taken_told : number (taken_of g) ≡ length (taken_by f.hgv g)
  taken_told = ap number (taken_of_lem (shown f) f.hgv vs dated c.sized one_each) ∙ number_15 (tally good vs) (omega (arith, few)) ∙ sym count_taken

  rejected_told : number (rejected_of g) ≡ answers_in f.hgv g
  rejected_told = ap number (rejected_of_lem (shown f) f.hgv vs dated c.sized one_each) ∙ number_15 (tally bad vs) (omega (arith, few)) ∙ sym count_rejected

  -- and the header says so
  pub counts_hold_lem : counts_hold f.hgv g ≡ true
  unfolding counts_hold
  counts_hold_lem = rw (eq-eqb (number (taken_of g)) (length (taken_by f.hgv g)) taken_told, eq-eqb (number (rejected_of g)) (answers_in f.hgv g) rejected_told)

  -- ---- the reasons

  -- each is one that an HGC may name
  pub reasons_hold : each (reason_holds (width_of f.hgv)) (answers_of f.hgv g) ≡ true
  reasons_hold =
      rw (answers_of_lem (shown f) f.hgv vs dated c.sized one_each)
      (passes_each (reason_holds (width_of f.hgv))
      (each_answered (width_of f.hgv) wide (reason_holds_lem (width_of f.hgv))
      s.named_each (each_line f.hgv)))

  -- two digits are enough for each
  reasons_read : map (λ v. number (decimal 2 v)) (pick bad vs vs) ≡ pick bad vs vs
  reasons_read = map_fixed (λ v. number (decimal 2 v)) (each_picked bad (each_map (λ v m b. number_2 v (omega arith)) s.most_each))

  -- they are the verdicts of the lines rejected
  pub reasons_are : map (λ a. number (reason_of (width_of f.hgv) a)) (answers_of f.hgv g) ≡ pick bad vs vs
  reasons_are =
      rw (answers_of_lem (shown f) f.hgv vs dated c.sized one_each)
      (sym (map-map number (reason_of (width_of f.hgv)) (answers (width_of f.hgv) vs (lines_of f.hgv)))
      ∙ ap (map number) (reasons_answers (width_of f.hgv) wide vs (each_line f.hgv) (omega (arith, one_each, length_lines f.hgv)))
      ∙ map-map number (decimal 2) (pick bad vs vs)
      ∙ reasons_read)

  -- ---- the lines taken

  -- each has the sender for its actor, and keeps the rules of a record
  taken_lines : each (line_holds f.hgv) (taken vs f.hgv) ≡ true
  taken_lines =
      passes_each (line_holds f.hgv)
      (each_map (λ l k. line_holds_lem f.hgv l k.0 k.1)
      (each_both s.his s.hold))

  -- no two share a PAN, and each holds
  pub taken_hold_lem : taken_hold f.hgv g ≡ true
  unfolding taken_hold
  taken_hold_lem = rw (taken_are, s.apart) taken_lines

  -- ---- the whole

  -- 52 is not given
  pub receipt : receipt_holds f.hgv g ≡ true
  unfolding receipt_holds says_hold lines_hold
  receipt =
      rw (
        form_holds_lem (shown f) f.hgv vs dated c.sized one_each,
        names_hold_lem (shown f) f.hgv vs dated c.sized one_each,
        reception_read,
        formed_shown f register c,
        outcome_holds_lem (shown f) f.hgv vs dated c.sized one_each,
        reasons_hold,
        copies_hold_lem,
        counts_hold_lem,
        taken_hold_lem,
      )

  -- the same lines, the same reasons
  pub read_back : read_verdicts f.hgv g ≡ vs
  unfolding read_verdicts reasons_of
  read_back = rw (marks_are, reasons_are) (told_is vs)
