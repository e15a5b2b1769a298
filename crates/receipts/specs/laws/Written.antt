-- The HGC that an import writes, as a provider reads it: its lines are the answers, its form is right, and its names are the
-- HGV's. Of its clauses those are here that hold whatever the verdicts are. Assumes nothing.
use Rattle.std.specs.Prelude.{◌≡◌, refl, true, List, [], ◌∷◌, ◌++◌, ℕ, ◌*◌, ◌-◌, ◌%◌, ◌≤◌, length}
use Rattle.std.proofs.Common.{sym, ap, ◌∙◌, append_assoc, arith, mul-div_cancel, take_at}
use Rattle.std.proofs.Math.Nat.{mul-mod_left}
use Rattle.std.proofs.Math.ListN.{length-append}
use Rattle.std.proofs.Math.Seq.{drop_at}
use borrow.Author.Tests.{eq-eqb, le-leb}
use Rattle.theory.specs.laws.Truth.{and_both}
use Rattle.theory.specs.Same.{eqs}
use Rattle.theory.specs.laws.Same.{eqs_refl}
use Rattle.theory.specs.Every.{all, run}
use Rattle.theory.specs.Each.{Each, none, more}
use Rattle.theory.specs.laws.Each.{each_from}
use Rattle.theory.specs.laws.Keep.{each_onto}
use Rattle.theory.specs.Join.{flat}
use Rattle.theory.specs.laws.Join.{chop_take, chop_flat}
use Rattle.theory.specs.Walk.{each}
use Rattle.theory.specs.laws.Walk.{passes_each}
use Rattle.theory.specs.Pick.{good, bad, pick}
use Rattle.theory.specs.Tally.{tally}
use Rattle.texts.specs.Field.{field}
use Rattle.texts.specs.laws.Field.{field_before}
use Rattle.numbers.specs.Number.{decimal, zeros}
use Rattle.numbers.specs.laws.Number.{decimal_digits}
use Rattle.lines.specs.Rules.{record_holds}
use Rattle.slots.specs.Search.{of_actor}
use Rattle.hgv.specs.Layout.{width_of, lines_in, length_holds, lines_of, footer}
use Rattle.sizes.specs.Sizes.{header_length, footer_length, hgc_header_length}
use Rattle.frames.specs.Frames.{foot, footer_holds}
use Rattle.frames.specs.laws.Frames.{length_foot, foot_form}
use Rattle.hgv.specs.laws.Layout.{width_has, length_lines, each_line, length_least}
use Rattle.header.specs.Header.{sender, list_sequence}
use Rattle.hgc.specs.Confirmation.{answer_length, confirmation_length, outcome, head, answer, answers, confirmation}
use Rattle.hgc.specs.laws.Confirmation.{Holding, length_head, each_answer, count_answers, length_answers, length_confirmation}
use Rattle.hgc.specs.laws.Fields.{
  head_type,
  head_sender,
  head_receiver,
  head_sequence,
  head_reception,
  head_taken,
  head_rejected,
  head_version,
  head_filler,
  head_outcome,
  head_end,
  answer_type,
  answer_end,
  texts_answers,
}
use Rattle.answers.specs.Layout.{bare_length, answers_in, behind_head, answers_of, reception_of, taken_of, rejected_of}
use Rattle.receipts.specs.Receipt.{
  length_form,
  head_form,
  answer_form,
  form_holds,
  names_hold,
  outcome_holds,
  texts_of,
  copies_of,
  same_texts,
  line_holds,
}

-- a list of texts is the same as itself
pub same_texts_lem : (xs : List (List ℕ)) → same_texts xs xs ≡ true
unfolding same_texts
same_texts_lem [] = refl
same_texts_lem (x ∷ xs) = rw (eqs_refl x) (same_texts_lem xs)

-- of a taken line no more is asked than this: its actor is the sender, and it keeps the rules of a record
pub line_holds_lem : (h l : List ℕ) → of_actor (sender h) l ≡ true → record_holds l ≡ true → line_holds h l ≡ true
unfolding line_holds
line_holds_lem h l = and_both (of_actor (sender h) l) (record_holds l)

-- what every answer has whose verdict has p, each of a file's answers has
pub each_answered : (w : ℕ) → 3 ≤ w → {p : ℕ → Type 0} {q : List ℕ → Type 0} → ((v : ℕ) (l : List ℕ) → p v → Holding w l → q (answer w v l))
    → {vs : List ℕ} {ls : List (List ℕ)} → Each (λ v. bad v ≡ true → p v) vs → Each (λ l. length l ≡ w) ls → Each q (answers w vs ls)
unfolding answers
each_answered w o g none h = none
each_answered w o g (more k ks) none = none
each_answered w o g (more k ks) (more h hs) = each_onto _ _ _ (λ e. g _ _ (k e) (o, omega arith)) (each_answered w o g ks hs)

-- an answer's two ends
answer_form_lem : (w v : ℕ) (l : List ℕ) → v ≡ v → Holding w l → answer_form w (answer w v l) ≡ true
unfolding answer_form eqs
answer_form_lem w v l e h = rw (answer_type w v l h, answer_end w v l h)

module _ (reception h vs : List ℕ) (dated : length reception ≡ 14) (sized : length_holds h ≡ true) (counted : length vs ≡ lines_in h) where
  abbrev g : List ℕ
  g = confirmation reception h vs

  abbrev top : List ℕ
  top = head reception h (tally good vs) (tally bad vs)

  abbrev w : ℕ
  w = width_of h

  abbrev rows : List (List ℕ)
  rows = answers w vs (lines_of h)

  wide : 3 ≤ w
  wide = width_has h 3 (omega arith)

  long : header_length ≤ length h
  long = omega (arith, length_least h sized)

  size : length g ≡ confirmation_length w (tally bad vs)
  size = length_confirmation reception h vs dated sized counted

  size_top : length top ≡ hgc_header_length
  size_top = length_head reception h (tally good vs) (tally bad vs) dated long

  rows_counted : length rows ≡ tally bad vs
  rows_counted = count_answers w vs (lines_of h) (omega (arith, length_lines h))

  size_rows : length (flat rows) ≡ tally bad vs * answer_length w
  size_rows = length_answers w wide vs (each_line h) ∙ ap (λ (k : ℕ). k * answer_length w) rows_counted

  -- what there is beside header and footer
  size_between : length g - bare_length ≡ tally bad vs * answer_length w
  size_between = omega (arith, size)

  -- ---- its parts

  -- as many lines as bad verdicts
  pub answers_in_lem : answers_in h g ≡ tally bad vs
  unfolding answers_in
  answers_in_lem = rw size_between (mul-div_cancel (tally bad vs) (omega arith))

  -- behind the header its lines, and then the footer
  behind_top : behind_head g ≡ flat rows ++ foot
  unfolding behind_head confirmation
  behind_top = rw (append_assoc top (flat rows) foot) (drop_at top (flat rows ++ foot) hgc_header_length size_top)

  -- and they are the answers
  pub answers_of_lem : answers_of h g ≡ rows
  unfolding answers_of
  answers_of_lem =
      rw (answers_in_lem, behind_top)
      (sym (chop_take (answer_length w) (tally bad vs) (flat rows ++ foot) (simp length-append (omega (arith, size_rows))))
      ∙ rw (take_at (flat rows) foot (tally bad vs * answer_length w) size_rows, ← rows_counted) (chop_flat (answer_length w) (each_answer w wide vs (each_line h))))

  -- its last 64 bytes are the footer
  pub foot_of : footer g ≡ foot
  unfolding footer confirmation
  foot_of =
      drop_at (top ++ flat rows) foot (length g - footer_length) (simp length-append (omega (arith, size_top, length_foot)))

  -- a field of its header
  pub field_of : (a b : ℕ) → 1 ≤ a → a ≤ b → b ≤ hgc_header_length → field a b g ≡ field a b top
  unfolding confirmation
  field_of a b o k l =
      field_before a b (top ++ flat rows) foot o k (simp length-append (omega (arith, size_top)))
      ∙ field_before a b top (flat rows) o k (omega (arith, size_top))

  -- ---- its form

  -- 110 + 130 r + 64
  pub length_form_lem : length_form h g ≡ true
  unfolding length_form
  length_form_lem = rw (le-leb bare_length (length g) (omega (arith, size)), size_between, eq-eqb (tally bad vs * answer_length w % answer_length w) 0 (mul-mod_left (tally bad vs) (answer_length w)))

  -- the counts in it
  pub taken_of_lem : taken_of g ≡ decimal 15 (tally good vs)
  taken_of_lem = field_of 47 61 (omega arith) (omega arith) (omega arith) ∙ head_taken reception h (tally good vs) (tally bad vs) dated long

  pub rejected_of_lem : rejected_of g ≡ decimal 15 (tally bad vs)
  rejected_of_lem = field_of 62 76 (omega arith) (omega arith) (omega arith) ∙ head_rejected reception h (tally good vs) (tally bad vs) dated long

  -- the header's fixed fields, and digits in the counts
  pub head_form_lem : head_form g ≡ true
  unfolding head_form eqs run all zeros
  head_form_lem =
      rw (
        field_of 1 1 (omega arith) (omega arith) (omega arith) ∙ head_type reception h (tally good vs) (tally bad vs) dated long,
        field_of 2 7 (omega arith) (omega arith) (omega arith) ∙ head_sender reception h (tally good vs) (tally bad vs) dated long,
        taken_of_lem,
        rejected_of_lem,
        decimal_digits 15 (tally good vs),
        decimal_digits 15 (tally bad vs),
        field_of 77 82 (omega arith) (omega arith) (omega arith) ∙ head_version reception h (tally good vs) (tally bad vs) dated long,
        field_of 83 107 (omega arith) (omega arith) (omega arith) ∙ head_filler reception h (tally good vs) (tally bad vs) dated long,
        field_of 110 110 (omega arith) (omega arith) (omega arith) ∙ head_end reception h (tally good vs) (tally bad vs) dated long,
      )

  -- each line has its two ends
  pub answer_forms : each (answer_form w) (answers_of h g) ≡ true
  answer_forms = rw answers_of_lem (passes_each (answer_form w) (each_answered w wide (answer_form_lem w) (each_from vs 0 (λ i l b. refl)) (each_line h)))

  -- so the form is right
  pub form_holds_lem : form_holds h g ≡ true
  unfolding form_holds footer_holds
  form_holds_lem = rw (length_form_lem, head_form_lem, answer_forms, foot_of, foot_form)

  -- ---- its names, its outcome, its reception and its copies

  -- the receiver is the HGV's sender, the list its list
  pub names_hold_lem : names_hold h g ≡ true
  unfolding names_hold
  names_hold_lem =
      rw (
        field_of 8 13 (omega arith) (omega arith) (omega arith) ∙ head_receiver reception h (tally good vs) (tally bad vs) dated long,
        field_of 14 32 (omega arith) (omega arith) (omega arith) ∙ head_sequence reception h (tally good vs) (tally bad vs) dated long,
        eqs_refl (sender h),
        eqs_refl (list_sequence h),
      )

  -- `00` or `01` fits
  pub outcome_holds_lem : outcome_holds h g ≡ true
  unfolding outcome_holds
  outcome_holds_lem =
      rw (
        field_of 108 109 (omega arith) (omega arith) (omega arith) ∙ head_outcome reception h (tally good vs) (tally bad vs) dated long,
        answers_in_lem,
        eqs_refl (outcome (tally bad vs)),
      )

  -- the time at which the HGV was received
  pub reception_is : reception_of g ≡ reception
  reception_is = field_of 33 46 (omega arith) (omega arith) (omega arith) ∙ head_reception reception h (tally good vs) (tally bad vs) dated long

  -- the texts of the rejected lines, in file order
  pub copies_of_lem : copies_of h g ≡ pick bad vs (texts_of h)
  unfolding copies_of texts_of
  copies_of_lem = rw answers_of_lem (texts_answers w wide vs (each_line h))
