-- Each position of a header but the version's (95-100) is fixed by a field of its form (26): a table of the positions, the field
-- that fixes them and the bytes that it admits there. Assumes nothing.
use Rattle.std.specs.Prelude.{◌≡◌, Bool, ◌&&◌, List, [], ◌∷◌, ◌++◌, map, ℕ}
use Rattle.std.proofs.Math.Path.{refl}
use Rattle.std.proofs.Math.Bool.{true}
use Rattle.theory.specs.Text.{bytes}
use Rattle.theory.specs.laws.Truth.{and_split, and_both, either}
use Rattle.theory.specs.Same.{eqs}
use Rattle.theory.specs.laws.Same.{eqs_true}
use Rattle.theory.specs.Each.{Each, none, more}
use Rattle.theory.specs.laws.Each.{each_append}
use Rattle.theory.specs.Every.{all, run}
use Rattle.theory.specs.laws.Every.{all_run}
use Rattle.sizes.specs.Sizes.{header_length, time_length}
use Rattle.texts.specs.Field.{field, line_end}
use Rattle.fields.specs.Field.{digit, zero_digit}
use Rattle.fields.specs.laws.Spans.{Span, span, one_of, cover, Held, Fixes, spans_held, moved, same_held}
use Rattle.times.specs.Time.{real_time}
use Rattle.times.specs.laws.Moment.{real_length, real_all}
use Rattle.sequences.specs.Sequence.{sequence}
use Rattle.sequences.specs.laws.Coverage.{sequence_spans, sequence_covered, sequence_fixes}
use Rattle.header.specs.Header.{sender, receiver, list_sequence, previous, no_list, previous_holds, count, creation, header_holds}
use Rattle.header.specs.laws.Header.{header_fields}

-- ---- the fields of the form

abbrev type_form : List ℕ → Bool
type_form h = eqs (field 1 1 h) (bytes "0")

abbrev sender_form : List ℕ → Bool
sender_form h = run digit 6 (sender h)

abbrev receiver_form : List ℕ → Bool
receiver_form h = run digit 6 (receiver h)

-- a sequence has its sender's digits in it
abbrev list_form : List ℕ → Bool
list_form h = sender_form h && sequence (sender h) (list_sequence h)

abbrev previous_form : List ℕ → Bool
previous_form h = sender_form h && previous_holds h

abbrev zeros_form : List ℕ → Bool
zeros_form h = run zero_digit 14 (field 52 65 h)

abbrev count_form : List ℕ → Bool
count_form h = run digit 15 (count h)

abbrev creation_form : List ℕ → Bool
creation_form h = real_time (creation h)

abbrev filler_form : List ℕ → Bool
filler_form h = run zero_digit 27 (field 101 127 h)

abbrev end_form : List ℕ → Bool
end_form h = eqs (field header_length header_length h) line_end

-- ---- what each fixes

-- in front of the version, and behind it
unfoldable pub front : List Span
front =
    span 1 1 type_form (one_of (bytes "0"))
    ∷ span 2 7 sender_form digit
    ∷ span 8 13 receiver_form digit
    ∷ map (moved 13) (sequence_spans list_form)
    ++ map (moved 32) (sequence_spans previous_form)
    ++ span 52 65 zeros_form zero_digit
    ∷ span 66 80 count_form digit
    ∷ span 81 94 creation_form digit
    ∷ []

unfoldable pub back : List Span
back = span 101 127 filler_form zero_digit ∷ span 128 128 end_form (one_of line_end) ∷ []

pub front_cover : cover 1 94 front ≡ true
unfolding cover front sequence_spans
front_cover = refl

pub back_cover : cover 101 128 back ≡ true
unfolding cover back
back_cover = refl

module _ (h : List ℕ) where
  list_held : list_form h ≡ true → Each (Held (list_sequence h)) (sequence_spans list_form)
  list_held e =
      let s = and_split (sender_form h) (sequence (sender h) (list_sequence h)) e in
      sequence_covered list_form (sender h) (list_sequence h) s.0 s.1

  previous_held : previous_form h ≡ true → Each (Held (previous h)) (sequence_spans previous_form)
  unfolding previous_holds sequence_spans one_of field run all
  previous_held e =
      let s = and_split (sender_form h) (previous_holds h) e in
      either (Each (Held (previous h)) (sequence_spans previous_form)) (sequence (sender h) (previous h)) (eqs (previous h) no_list) s.1
      (sequence_covered previous_form (sender h) (previous h) s.0)
      (λ n. rw (eqs_true (previous h) no_list n) (more refl (more refl (more refl (more refl (more refl (more refl none)))))))

  creation_held : creation_form h ≡ true → run digit time_length (creation h) ≡ true
  creation_held e = all_run digit time_length (creation h) (real_length (creation h) e) (real_all (creation h) e)

  -- each field holds only where its positions are there and hold what it admits
  pub front_fixed : Each (Fixes h) front
  unfolding front sequence_spans one_of run all
  front_fixed =
      more (same_held (one_of (bytes "0")) 1 (field 1 1 h) (bytes "0") refl)
      (more (λ e. e)
      (more (λ e. e)
      (each_append (sequence_fixes list_form 13 h list_held)
      (each_append (sequence_fixes previous_form 32 h previous_held)
      (more (λ e. e)
      (more (λ e. e)
      (more creation_held none)))))))

  pub back_fixed : Each (Fixes h) back
  unfolding back one_of run all
  back_fixed = more (λ e. e) (more (same_held (one_of line_end) 1 (field 128 128 h) line_end refl) none)

  -- the fields of the form are those of the spans
  header_rules : header_holds h ≡ true → Each (λ r. r.rule h ≡ true) front × Each (λ r. r.rule h ≡ true) back
  unfolding front back sequence_spans
  header_rules e = go (header_fields h e)
    where
      go : Each (λ b. b ≡ true)
          (type_form h ∷ sender_form h ∷ receiver_form h ∷ sequence (sender h) (list_sequence h) ∷ previous_holds h ∷ zeros_form h ∷ count_form h ∷ creation_form h ∷ filler_form h ∷ end_form h ∷ [])
          → Each (λ r. r.rule h ≡ true) front × Each (λ r. r.rule h ≡ true) back
      go (more t (more s (more r (more q (more o (more z (more n (more c (more f (more d none)))))))))) =
          let l : list_form h ≡ true = and_both (sender_form h) (sequence (sender h) (list_sequence h)) s q in
          let p : previous_form h ≡ true = and_both (sender_form h) (previous_holds h) s o in (
            more t (more s (more r (more l (more l (more l (more l (more l (more l
                (more p (more p (more p (more p (more p (more p (more z (more n (more c none))))))))))))))))),
            more f (more d none),
          )

  -- so where the form holds, all positions do but the version's
  pub header_covered : header_holds h ≡ true → Each (Held h) front × Each (Held h) back
  header_covered e = (spans_held (header_rules e).0 front_fixed, spans_held (header_rules e).1 back_fixed)
