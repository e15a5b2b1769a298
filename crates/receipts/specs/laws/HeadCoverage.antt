-- Each position of an HGC's header from 1 to 110 is fixed by a clause of 52, beside T17: h is the HGV, whose header is in form.
-- Assumes nothing.
use Rattle.std.specs.Prelude.{◌≡◌, refl, Bool, List, [], ◌∷◌, ◌++◌, map, ℕ, zero, suc, ◌-◌, ◌≤◌, get_or}
use Rattle.std.proofs.Math.Bool.{true}
use Rattle.std.proofs.Common.{arith}
use Rattle.theory.specs.Text.{bytes}
use Rattle.theory.specs.laws.Truth.{and_split, joined, joined_each}
use Rattle.theory.specs.Same.{eqs}
use Rattle.theory.specs.laws.Same.{eqs_true}
use Rattle.theory.specs.Each.{Each, none, more}
use Rattle.theory.specs.laws.Each.{each_append}
use Rattle.theory.specs.Every.{all, run}
use Rattle.theory.specs.laws.Every.{all_run}
use Rattle.theory.specs.Walk.{each}
use Rattle.sizes.specs.Sizes.{hgc_header_length, time_length}
use Rattle.texts.specs.Field.{field, line_end}
use Rattle.fields.specs.Field.{digit, zero_digit}
use Rattle.fields.specs.laws.Spans.{Span, span, one_of, cover, admitted, Held, Fixes, spans_held, moved, same_held, text_held, covered_at}
use Rattle.times.specs.Time.{real_time}
use Rattle.times.specs.laws.Moment.{real_length, real_all}
use Rattle.sequences.specs.laws.Coverage.{sequence_spans, sequence_covered, sequence_fixes}
use Rattle.frames.specs.Frames.{footer_holds}
use Rattle.hgv.specs.Layout.{width_of}
use Rattle.header.specs.Header.{sender, list_sequence, header_holds}
use Rattle.header.specs.laws.Header.{header_sender, header_list}
use Rattle.hgc.specs.Confirmation.{outcome}
use Rattle.answers.specs.Layout.{answers_in, answers_of, list_of, reception_of, taken_of, rejected_of}
use Rattle.receipts.specs.Receipt.{length_form, head_form, answer_form, form_holds, names_hold, outcome_holds, reason_holds, says_hold}

-- ---- the clauses, field by field

abbrev type_form : List ℕ → Bool
type_form g = eqs (field 1 1 g) (bytes "0")

abbrev sender_form : List ℕ → Bool
sender_form g = eqs (field 2 7 g) (bytes "000002")

abbrev receiver_is : List ℕ → List ℕ → Bool
receiver_is h g = eqs (field 8 13 g) (sender h)

abbrev list_is : List ℕ → List ℕ → Bool
list_is h g = eqs (list_of g) (list_sequence h)

abbrev reception_real : List ℕ → Bool
reception_real g = real_time (reception_of g)

abbrev taken_form : List ℕ → Bool
taken_form g = run digit 15 (taken_of g)

abbrev rejected_form : List ℕ → Bool
rejected_form g = run digit 15 (rejected_of g)

abbrev version_form : List ℕ → Bool
version_form g = eqs (field 77 82 g) (bytes "120001")

abbrev filler_form : List ℕ → Bool
filler_form g = run zero_digit 25 (field 83 107 g)

abbrev end_form : List ℕ → Bool
end_form g = eqs (field 110 110 g) line_end

-- ---- what each fixes

unfoldable pub head_spans : List ℕ → List Span
head_spans h =
    span 1 1 type_form (one_of (bytes "0"))
    ∷ span 2 6 sender_form zero_digit
    ∷ span 7 7 sender_form (one_of (bytes "2"))
    ∷ span 8 13 (receiver_is h) digit
    ∷ map (moved 13) (sequence_spans (list_is h))
    ++ span 33 46 reception_real digit
    ∷ span 47 61 taken_form digit
    ∷ span 62 76 rejected_form digit
    ∷ span 77 77 version_form (one_of (bytes "1"))
    ∷ span 78 78 version_form (one_of (bytes "2"))
    ∷ span 79 81 version_form zero_digit
    ∷ span 82 82 version_form (one_of (bytes "1"))
    ∷ span 83 107 filler_form zero_digit
    ∷ span 108 108 (outcome_holds h) zero_digit
    ∷ span 109 109 (outcome_holds h) (one_of (bytes "01"))
    ∷ span 110 110 end_form (one_of line_end)
    ∷ []

pub head_cover : (h : List ℕ) → cover 1 hgc_header_length (head_spans h) ≡ true
unfolding cover head_spans sequence_spans
head_cover h = refl

-- `00` or `01`
outcome_held : (h g : List ℕ) → outcome_holds h g ≡ true → Held g (span 108 108 (outcome_holds h) zero_digit) × Held g (span 109 109 (outcome_holds h) (one_of (bytes "01")))
unfolding outcome_holds outcome one_of field run all
outcome_held h g = go (answers_in h g)
  where
    go : (n : ℕ) → eqs (field 108 109 g) (outcome n) ≡ true → Held g (span 108 108 (outcome_holds h) zero_digit) × Held g (span 109 109 (outcome_holds h) (one_of (bytes "01")))
    go zero e = (
      text_held g 107 2 (bytes "00") (span 1 1 (outcome_holds h) zero_digit) (omega arith) (omega arith) refl e,
      text_held g 107 2 (bytes "00") (span 2 2 (outcome_holds h) (one_of (bytes "01"))) (omega arith) (omega arith) refl e,
    )
    go (suc n) e = (
      text_held g 107 2 (bytes "01") (span 1 1 (outcome_holds h) zero_digit) (omega arith) (omega arith) refl e,
      text_held g 107 2 (bytes "01") (span 2 2 (outcome_holds h) (one_of (bytes "01"))) (omega arith) (omega arith) refl e,
    )

module _ (h : List ℕ) (form : header_holds h ≡ true) (g : List ℕ) where
  list_held : list_is h g ≡ true → Each (Held (list_of g)) (sequence_spans (list_is h))
  list_held e = rw (eqs_true (list_of g) (list_sequence h) e) (sequence_covered (list_is h) (sender h) (list_sequence h) (header_sender h form) (header_list h form))

  -- each clause holds only where its positions are there and hold what it admits
  pub head_fixed : Each (Fixes g) (head_spans h)
  unfolding head_spans sequence_spans one_of field run all
  head_fixed =
      more (same_held (one_of (bytes "0")) 1 (field 1 1 g) (bytes "0") refl)
      (more (text_held g 1 6 (bytes "000002") (span 1 5 sender_form zero_digit) (omega arith) (omega arith) refl)
      (more (text_held g 1 6 (bytes "000002") (span 6 6 sender_form (one_of (bytes "2"))) (omega arith) (omega arith) refl)
      (more (same_held digit 6 (field 8 13 g) (sender h) (header_sender h form))
      (each_append (sequence_fixes (list_is h) 13 g list_held)
      (more (λ e. all_run digit time_length (reception_of g) (real_length (reception_of g) e) (real_all (reception_of g) e))
      (more (λ e. e)
      (more (λ e. e)
      (more (text_held g 76 6 (bytes "120001") (span 1 1 version_form (one_of (bytes "1"))) (omega arith) (omega arith) refl)
      (more (text_held g 76 6 (bytes "120001") (span 2 2 version_form (one_of (bytes "2"))) (omega arith) (omega arith) refl)
      (more (text_held g 76 6 (bytes "120001") (span 3 5 version_form zero_digit) (omega arith) (omega arith) refl)
      (more (text_held g 76 6 (bytes "120001") (span 6 6 version_form (one_of (bytes "1"))) (omega arith) (omega arith) refl)
      (more (λ e. e)
      (more (λ e. (outcome_held h g e).0)
      (more (λ e. (outcome_held h g e).1)
      (more (same_held (one_of line_end) 1 (field 110 110 g) line_end refl) none)))))))))))))))

  -- the clauses of the header, of those by which an HGC is read
  head_says : says_hold h g ≡ true → (head_form g ≡ true) × (names_hold h g ≡ true) × (reception_real g ≡ true) × (outcome_holds h g ≡ true)
  unfolding says_hold form_holds joined
  head_says e = go (joined_each (form_holds h g) (names_hold h g ∷ reception_real g ∷ outcome_holds h g ∷ each (reason_holds (width_of h)) (answers_of h g) ∷ []) e)
    where
      in_form : Each (λ b. b ≡ true) (length_form h g ∷ head_form g ∷ each (answer_form (width_of h)) (answers_of h g) ∷ footer_holds g ∷ []) → head_form g ≡ true
      in_form (more l (more t bs)) = t

      go : Each (λ b. b ≡ true) (form_holds h g ∷ names_hold h g ∷ reception_real g ∷ outcome_holds h g ∷ each (reason_holds (width_of h)) (answers_of h g) ∷ [])
          → (head_form g ≡ true) × (names_hold h g ≡ true) × (reception_real g ≡ true) × (outcome_holds h g ≡ true)
      go (more f (more n (more r (more o bs)))) = (in_form (joined_each (length_form h g) (head_form g ∷ each (answer_form (width_of h)) (answers_of h g) ∷ footer_holds g ∷ []) f), n, r, o)

  -- and they are those of the spans
  head_rules : says_hold h g ≡ true → Each (λ r. r.rule g ≡ true) (head_spans h)
  unfolding head_form names_hold head_spans sequence_spans joined
  head_rules e =
      let s = head_says e in
      go (joined_each (type_form g) (sender_form g ∷ taken_form g ∷ rejected_form g ∷ version_form g ∷ filler_form g ∷ end_form g ∷ []) s.0)
      (and_split (receiver_is h g) (list_is h g) s.1) s.2 s.3
    where
      go : Each (λ b. b ≡ true) (type_form g ∷ sender_form g ∷ taken_form g ∷ rejected_form g ∷ version_form g ∷ filler_form g ∷ end_form g ∷ [])
          → (receiver_is h g ≡ true) × (list_is h g ≡ true) → reception_real g ≡ true → outcome_holds h g ≡ true → Each (λ r. r.rule g ≡ true) (head_spans h)
      go (more t (more s (more n (more m (more v (more f (more d none))))))) (r, l) c o =
          more t (more s (more s (more r (more l (more l (more l (more l (more l (more l (more c (more n (more m
          (more v (more v (more v (more v (more f (more o (more o (more d none))))))))))))))))))))

  -- so where the HGC is read, all positions of its header hold
  pub head_covered : says_hold h g ≡ true → Each (Held g) (head_spans h)
  head_covered e = spans_held (head_rules e) head_fixed

  -- and the byte at each is one that the table admits there
  pub head_at : says_hold h g ≡ true → (p : ℕ) → 1 ≤ p → p ≤ hgc_header_length → admitted (head_spans h) p (get_or g (p - 1) 0) ≡ true
  head_at e p a b = covered_at g (head_spans h) 1 hgc_header_length p (omega arith) (head_cover h) (head_covered e) a b
