-- How long a sequence is. Assumes nothing.
use Rattle.std.specs.Prelude.{◌≡◌, true, List, [], ◌∷◌, ℕ, eqb, leb, length}
use Rattle.std.proofs.Common.{eqb-true}
use Rattle.theory.specs.Text.{bytes}
use Rattle.theory.specs.laws.Each.{each_head}
use Rattle.theory.specs.laws.Truth.{joined, joined_each}
use Rattle.theory.specs.Same.{eqs}
use Rattle.theory.specs.Every.{run}
use Rattle.texts.specs.Field.{field}
use Rattle.fields.specs.Field.{digit}
use Rattle.numbers.specs.Number.{number}
use Rattle.times.specs.Time.{real_date}
use Rattle.sequences.specs.Sequence.{list_length, sequence}

pub sequence_length : (from f : List ℕ) → sequence from f ≡ true → length f ≡ list_length
unfolding sequence joined
sequence_length from f h =
    eqb-true (length f) list_length
    (each_head (joined_each (eqb (length f) list_length) (eqs (field 1 3 f) (bytes "HGV") ∷ eqs (field 4 9 f) from ∷ real_date (field 10 17 f) ∷ run digit 2 (field 18 19 f) ∷ leb 1 (number (field 18 19 f)) ∷ []) h))
