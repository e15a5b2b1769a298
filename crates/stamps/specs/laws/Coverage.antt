-- Each position of a stamp is fixed by a part of its form, so those of a slot are behind its record. Assumes nothing.
use Rattle.std.specs.Prelude.{◌≡◌, true, List, [], ◌∷◌, ◌++◌, map, ℕ, ◌-◌, ◌≤◌, get_or}
use Rattle.std.proofs.Math.Path.{refl}
use Rattle.std.proofs.Common.{arith}
use Rattle.theory.specs.Each.{Each, none, more}
use Rattle.theory.specs.laws.Each.{each_append}
use Rattle.theory.specs.Every.{run}
use Rattle.theory.specs.laws.Every.{all_run}
use Rattle.sizes.specs.Sizes.{stamp_length, time_length}
use Rattle.fields.specs.Field.{digit, zero_digit}
use Rattle.fields.specs.laws.Spans.{Span, span, cover, admitted, Held, moved, each_moved, covered_at}
use Rattle.times.specs.laws.Moment.{real_length, real_all}
use Rattle.sequences.specs.laws.Coverage.{sequence_spans, sequence_cover, sequence_covered}
use Rattle.stamps.specs.Stamp.{list_in, reception_in, stamp_holds}
use Rattle.stamps.specs.laws.Stamp.{Stamped, stamped}

-- the list sequence, the reception, the seven zeros, for a record of the actor `who`
unfoldable pub stamp_spans : List ℕ → List Span
stamp_spans who = map (moved 0) (sequence_spans (stamp_holds who)) ++ span 20 33 (stamp_holds who) digit ∷ span 34 40 (stamp_holds who) zero_digit ∷ []

module _ (who : List ℕ) where
  pub stamp_cover : cover 1 stamp_length (stamp_spans who) ≡ true
  unfolding cover stamp_spans sequence_spans
  stamp_cover = refl

  -- where the actor is six digits, a stamp of his has bytes that are admitted
  module _ (six : run digit 6 who ≡ true) (s : List ℕ) (h : stamp_holds who s ≡ true) where
    t : Stamped who s
    t = stamped who s h

    pub stamp_covered : Each (Held s) (stamp_spans who)
    unfolding stamp_spans
    stamp_covered =
        each_append (each_moved s 0 1 19 (sequence_spans (stamp_holds who)) (omega arith) (sequence_cover (stamp_holds who)) (sequence_covered (stamp_holds who) who (list_in s) six t.listed))
        (more (all_run digit time_length (reception_in s) (real_length (reception_in s) t.received) (real_all (reception_in s) t.received))
        (more t.zeros none))

    -- position by position
    pub stamp_at : (p : ℕ) → 1 ≤ p → p ≤ stamp_length → admitted (stamp_spans who) p (get_or s (p - 1) 0) ≡ true
    stamp_at p a b = covered_at s (stamp_spans who) 1 stamp_length p (omega arith) stamp_cover stamp_covered a b
