-- The HGC's lines beside the HGV's, decided by a pairing from the last to the first, and what is known of the lines taken
-- where they hold. h is the HGV, g the HGC. Assumes nothing.
use Rattle.std.specs.Prelude.{◌≡◌, refl, true, ◌&&◌, List, [], ◌∷◌, map, ℕ, eqb, length}
use Rattle.std.proofs.Math.Path.{sym}
use Rattle.std.proofs.Common.{ap₂, ◌∙◌}
use Rattle.std.proofs.lemmas.Bool.{false≢true}
use Rattle.std.proofs.Math.ListN.{length-map}
use borrow.Author.Tests.{eqb-true}
use Rattle.theory.specs.laws.Truth.{and_left, and_right, same_truth}
use Rattle.theory.specs.Same.{eqs}
use Rattle.theory.specs.laws.Same.{eqs_true}
use Rattle.theory.specs.Each.{Each}
use Rattle.theory.specs.laws.Each.{each_map}
use Rattle.theory.specs.Walk.{each}
use Rattle.theory.specs.laws.Walk.{each_passes}
use Rattle.theory.specs.Pick.{good}
use Rattle.theory.specs.Distinct.{distinct}
use Rattle.theory.specs.Tally.{tally}
use Rattle.theory.specs.laws.Tally.{tally_pick}
use Rattle.numbers.specs.Number.{number}
use Rattle.columns.specs.Columns.{text, pan_of}
use Rattle.lines.specs.Rules.{record_holds}
use Rattle.slots.specs.Search.{of_actor}
use Rattle.hgv.specs.Layout.{width_of, lines_of}
use Rattle.header.specs.Header.{sender}
use Rattle.pairing.specs.Pairing.{marks, left}
use Rattle.pairing.specs.laws.Pairing.{length_marks}
use Rattle.pairing.specs.Backwards.{paired}
use Rattle.pairing.specs.laws.Backwards.{pairs_up, marks_paired, left_paired, left_pairs_up}
use Rattle.answers.specs.Layout.{answers_in, taken_of, rejected_of}
use Rattle.receipts.specs.Receipt.{
  texts_of,
  copies_of,
  marks_of,
  taken_by,
  same_texts,
  copies_hold,
  counts_hold,
  line_holds,
  taken_hold,
  lines_hold,
}
use Rattle.receipts.specs.laws.Written.{same_texts_lem}

same_lists : (xs ys : List (List ℕ)) → same_texts xs ys ≡ true → xs ≡ ys
unfolding same_texts
same_lists [] [] e = refl
same_lists [] (y ∷ ys) e = absurd (false≢true e)
same_lists (x ∷ xs) [] e = absurd (false≢true e)
same_lists (x ∷ xs) (y ∷ ys) e = ap₂ ◌∷◌ (eqs_true x y (and_left (eqs x y) (same_texts xs ys) e)) (same_lists xs ys (and_right (eqs x y) (same_texts xs ys) e))

module _ (h g : List ℕ) where
  -- the copies are the lines left, in order, where the pairing uses all of them up and leaves only first lines alone
  pub copies_pair : copies_hold h g ≡ pairs_up (texts_of h) (copies_of h g)
  unfolding copies_hold
  copies_pair =
      same_truth (same_texts (left (texts_of h) (copies_of h g)) (copies_of h g)) (pairs_up (texts_of h) (copies_of h g))
      (λ e. left_pairs_up (texts_of h) (copies_of h g) (same_lists (left (texts_of h) (copies_of h g)) (copies_of h g) e))
      (λ e. rw (left_paired (texts_of h) (copies_of h g) e) (same_texts_lem (copies_of h g)))

  -- which then says which were taken
  pub pair_marks : pairs_up (texts_of h) (copies_of h g) ≡ true → paired (texts_of h) (copies_of h g) ≡ marks_of h g
  unfolding marks_of
  pair_marks e = sym (marks_paired (texts_of h) (copies_of h g) e)

  -- as many as there are marks 0
  pub taken_count : tally good (marks_of h g) ≡ length (taken_by h g)
  unfolding taken_by marks_of texts_of
  taken_count =
      sym (tally_pick good (marks (map (text (width_of h)) (lines_of h)) (copies_of h g)) (lines_of h)
      (length_marks (map (text (width_of h)) (lines_of h)) (copies_of h g) ∙ length-map (lines_of h) (text (width_of h))))

-- what is known where the lines hold
pub record Held (h g : List ℕ) : Type 0 where
  pub copies : left (texts_of h) (copies_of h g) ≡ copies_of h g
  pub taken : number (taken_of g) ≡ length (taken_by h g)
  pub rejected : number (rejected_of g) ≡ answers_in h g
  -- of the lines taken: no two have one PAN, each has the sender for its actor, and keeps the rules of a record
  pub apart : distinct (map pan_of (taken_by h g)) ≡ true
  pub own : Each (λ l. of_actor (sender h) l ≡ true) (taken_by h g)
  pub records : Each (λ l. record_holds l ≡ true) (taken_by h g)

module _ (h g : List ℕ) (e : lines_hold h g ≡ true) where
  copied : copies_hold h g ≡ true
  unfolding lines_hold
  copied = and_left (copies_hold h g) (counts_hold h g) (and_left (copies_hold h g && counts_hold h g) (taken_hold h g) e)

  counted : counts_hold h g ≡ true
  unfolding lines_hold
  counted = and_right (copies_hold h g) (counts_hold h g) (and_left (copies_hold h g && counts_hold h g) (taken_hold h g) e)

  took : taken_hold h g ≡ true
  unfolding lines_hold
  took = and_right (copies_hold h g && counts_hold h g) (taken_hold h g) e

  holding : Each (λ l. of_actor (sender h) l && record_holds l ≡ true) (taken_by h g)
  unfolding taken_hold line_holds
  holding = each_passes (line_holds h) (taken_by h g) (and_right (distinct (map pan_of (taken_by h g))) (each (line_holds h) (taken_by h g)) took)

  -- the marks of the pairing are those of the lines taken
  pub taken_marks : paired (texts_of h) (copies_of h g) ≡ marks_of h g
  taken_marks = pair_marks h g (sym (copies_pair h g) ∙ copied)

  pub held : Held h g
  unfolding copies_hold counts_hold taken_hold
  held =
      record {
        copies = same_lists (left (texts_of h) (copies_of h g)) (copies_of h g) copied;
        taken = eqb-true (number (taken_of g)) (length (taken_by h g)) (and_left (eqb (number (taken_of g)) (length (taken_by h g))) (eqb (number (rejected_of g)) (answers_in h g)) counted);
        rejected = eqb-true (number (rejected_of g)) (answers_in h g) (and_right (eqb (number (taken_of g)) (length (taken_by h g))) (eqb (number (rejected_of g)) (answers_in h g)) counted);
        apart = and_left (distinct (map pan_of (taken_by h g))) (each (line_holds h) (taken_by h g)) took;
        own = each_map (λ l q. and_left (of_actor (sender h) l) (record_holds l) q) holding;
        records = each_map (λ l q. and_right (of_actor (sender h) l) (record_holds l) q) holding;
      }
