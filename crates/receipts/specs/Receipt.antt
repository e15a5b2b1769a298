-- The HGC beside its HGV, as a provider reads it: its form, and its lines against the HGV's, clause by clause as the
-- definition lists them under 52. h is the HGV, g the HGC, w the width of the HGV's lines. Assumes nothing.
use Rattle.std.specs.Prelude.{ℕ, ◌-◌, ◌%◌, Bool, true, false, ◌&&◌, List, [], ◌∷◌, map, eqb, leb, length}
use Rattle.theory.specs.Text.{bytes}
use Rattle.theory.specs.Same.{eqs}
use Rattle.theory.specs.Every.{run}
use Rattle.theory.specs.Walk.{each}
use Rattle.theory.specs.Pick.{good, pick}
use Rattle.theory.specs.Distinct.{distinct}
use Rattle.texts.specs.Field.{field, line_end, listed}
use Rattle.fields.specs.Field.{digit, zero_digit}
use Rattle.numbers.specs.Number.{number}
use Rattle.times.specs.Time.{real_time}
use Rattle.columns.specs.Columns.{text, pan_of}
use Rattle.lines.specs.Rules.{record_holds}
use Rattle.slots.specs.Search.{of_actor}
use Rattle.hgv.specs.Layout.{width_of, lines_of}
use Rattle.frames.specs.Frames.{footer_holds}
use Rattle.header.specs.Header.{sender, list_sequence}
use Rattle.hgc.specs.Confirmation.{answer_length, outcome}
use Rattle.pairing.specs.Pairing.{marks, left}
use Rattle.answers.specs.Layout.{bare_length, answers_in, answers_of, list_of, reception_of, taken_of, rejected_of, reason_of}

-- ---- its form

-- the length: 110 + 130 r + 64
unfoldable pub length_form : List ℕ → List ℕ → Bool
length_form h g = leb bare_length (length g) && eqb ((length g - bare_length) % answer_length (width_of h)) 0

-- `0`, `000002`, taken 15 digits, rejected 15 digits, `120001`, 25 zeros, LF; receiver, list, reception and `00` or `01` have
-- clauses of their own
unfoldable pub head_form : List ℕ → Bool
head_form g =
    eqs (field 1 1 g) (bytes "0") && eqs (field 2 7 g) (bytes "000002") && run digit 15 (taken_of g) && run digit 15 (rejected_of g)
    && eqs (field 77 82 g) (bytes "120001") && run zero_digit 25 (field 83 107 g) && eqs (field 110 110 g) line_end

-- `1`, LF; the text has a clause of its own, and so has the reason
unfoldable pub answer_form : ℕ → List ℕ → Bool
answer_form w a = eqs (field 1 1 a) (bytes "1") && eqs (field (answer_length w) (answer_length w) a) line_end

unfoldable pub form_holds : List ℕ → List ℕ → Bool
form_holds h g = length_form h g && head_form g && each (answer_form (width_of h)) (answers_of h g) && footer_holds g

-- the receiver is the HGV's sender, the list its list
unfoldable pub names_hold : List ℕ → List ℕ → Bool
names_hold h g = eqs (field 8 13 g) (sender h) && eqs (list_of g) (list_sequence h)

-- `00` or `01` fits
unfoldable pub outcome_holds : List ℕ → List ℕ → Bool
outcome_holds h g = eqs (field 108 109 g) (outcome (answers_in h g))

-- 01-06, 08, 09 or 12
unfoldable pub reason_holds : ℕ → List ℕ → Bool
reason_holds w a = listed 2 (bytes "010203040506080912") (reason_of w a)

-- ---- its lines against the HGV's

unfoldable pub texts_of : List ℕ → List (List ℕ)
texts_of h = map (text (width_of h)) (lines_of h)

unfoldable pub copies_of : List ℕ → List ℕ → List (List ℕ)
copies_of h g = map (text (width_of h)) (answers_of h g)

-- 0 for each line of the HGV that was taken
unfoldable pub marks_of : List ℕ → List ℕ → List ℕ
marks_of h g = marks (texts_of h) (copies_of h g)

unfoldable pub taken_by : List ℕ → List ℕ → List (List ℕ)
taken_by h g = pick good (marks_of h g) (lines_of h)

-- two lists of texts are the same
unfoldable pub same_texts : List (List ℕ) → List (List ℕ) → Bool
same_texts [] [] = true
same_texts [] (y ∷ ys) = false
same_texts (x ∷ xs) [] = false
same_texts (x ∷ xs) (y ∷ ys) = eqs x y && same_texts xs ys

-- the HGC's copies are the lines left, in order
unfoldable pub copies_hold : List ℕ → List ℕ → Bool
copies_hold h g = same_texts (left (texts_of h) (copies_of h g)) (copies_of h g)

-- the counts are those of the lines
unfoldable pub counts_hold : List ℕ → List ℕ → Bool
counts_hold h g = eqb (number (taken_of g)) (length (taken_by h g)) && eqb (number (rejected_of g)) (answers_in h g)

-- a taken line has the sender for its actor, and keeps L1, L5 to L10, but for the limits of weight
unfoldable pub line_holds : List ℕ → List ℕ → Bool
line_holds h l = of_actor (sender h) l && record_holds l

-- no two taken lines share a PAN, and each holds
unfoldable pub taken_hold : List ℕ → List ℕ → Bool
taken_hold h g = distinct (map pan_of (taken_by h g)) && each (line_holds h) (taken_by h g)

-- what it says by itself, and of whom: its form, receiver and list, reception, `00` or `01`, the reasons
unfoldable pub says_hold : List ℕ → List ℕ → Bool
says_hold h g = form_holds h g && names_hold h g && real_time (reception_of g) && outcome_holds h g && each (reason_holds (width_of h)) (answers_of h g)

-- its lines beside the HGV's
unfoldable pub lines_hold : List ℕ → List ℕ → Bool
lines_hold h g = copies_hold h g && counts_hold h g && taken_hold h g

-- 52 is given where this does not hold
unfoldable pub receipt_holds : List ℕ → List ℕ → Bool
receipt_holds h g = says_hold h g && lines_hold h g
