-- Each position of a list sequence is fixed by a part of it. Assumes nothing.
use Rattle.std.specs.Prelude.{◌≡◌, true, ℕ, ◌+◌, ◌≤◌, eqb, length}
use Rattle.std.proofs.Math.Path.{refl}
use Rattle.std.proofs.Math.Bool.{Bool}
use mathlib.Core.List.{List, [], ◌∷◌, map}
use Rattle.std.proofs.Common.{arith}
use Rattle.std.proofs.Math.Dec.{leb}
use Rattle.theory.specs.Text.{bytes}
use Rattle.theory.specs.laws.Truth.{and_left, joined, joined_each}
use Rattle.theory.specs.Same.{eqs}
use Rattle.theory.specs.Each.{Each, none, more}
use Rattle.theory.specs.Every.{all, run}
use Rattle.texts.specs.Field.{field}
use Rattle.fields.specs.Field.{digit}
use Rattle.fields.specs.laws.Spans.{Span, span, one_of, cover, Held, Fixes, one_rule, moved, same_held, text_held, each_moved}
use Rattle.numbers.specs.Number.{number}
use Rattle.calendar.specs.Calendar.{real_day}
use Rattle.times.specs.Time.{year, month, day, real_date}
use Rattle.times.specs.laws.Date.{date_is}
use Rattle.sequences.specs.Sequence.{sequence}

-- a date is eight digits
date_digits : (d : List ℕ) → real_date d ≡ true → run digit 8 d ≡ true
date_digits d h = and_left (run digit 8 d) (real_day (year d) (month d) (day d)) (rw (date_is d) at h)

-- `HGV`, the sender, the date, the number; where a rule asks for a sequence, it fixes them all
unfoldable pub sequence_spans : (List ℕ → Bool) → List Span
sequence_spans rule =
    span 1 1 rule (one_of (bytes "H"))
    ∷ span 2 2 rule (one_of (bytes "G"))
    ∷ span 3 3 rule (one_of (bytes "V"))
    ∷ span 4 9 rule digit
    ∷ span 10 17 rule digit
    ∷ span 18 19 rule digit
    ∷ []

module _ (rule : List ℕ → Bool) where
  pub sequence_cover : cover 1 19 (sequence_spans rule) ≡ true
  unfolding cover sequence_spans
  sequence_cover = refl

  module _ (from f : List ℕ) where
    titled : (r : Span) → 1 ≤ r.from → r.to ≤ 3 → Held (bytes "HGV") r → eqs (field 1 3 f) (bytes "HGV") ≡ true → Held f (moved 0 r)
    titled = text_held f 0 3 (bytes "HGV")

    -- where the sender is six digits, a sequence of his has bytes that are admitted
    pub sequence_covered : run digit 6 from ≡ true → sequence from f ≡ true → Each (Held f) (sequence_spans rule)
    unfolding sequence sequence_spans joined one_of field run all
    sequence_covered s h = go (joined_each (eqb (length f) 19) behind h)
      where
        behind : List Bool
        behind = eqs (field 1 3 f) (bytes "HGV") ∷ eqs (field 4 9 f) from ∷ real_date (field 10 17 f) ∷ run digit 2 (field 18 19 f) ∷ leb 1 (number (field 18 19 f)) ∷ []

        go : Each (λ b. b ≡ true) (eqb (length f) 19 ∷ behind) → Each (Held f) (sequence_spans rule)
        go (more l (more t (more a (more d (more n (more m none)))))) =
            more (titled (span 1 1 rule (one_of (bytes "H"))) (omega arith) (omega arith) refl t)
            (more (titled (span 2 2 rule (one_of (bytes "G"))) (omega arith) (omega arith) refl t)
            (more (titled (span 3 3 rule (one_of (bytes "V"))) (omega arith) (omega arith) refl t)
            (more (same_held digit 6 (field 4 9 f) from s a)
            (more (date_digits (field 10 17 f) d)
            (more n none)))))

  -- so it is behind position k of a text, where the rule asks for one there
  pub sequence_fixes : (k : ℕ) (l : List ℕ) → (rule l ≡ true → Each (Held (field (k + 1) (k + 19) l)) (sequence_spans rule)) → Each (Fixes l) (map (moved k) (sequence_spans rule))
  unfolding sequence_spans
  sequence_fixes k l g =
      one_rule rule (more refl (more refl (more refl (more refl (more refl (more refl none))))))
      (λ e. each_moved l k 1 19 (sequence_spans rule) (omega arith) sequence_cover (g e))
