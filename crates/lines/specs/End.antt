-- The end of a record: what its Valid to becomes at a reception, and until when it is active. Assumes nothing.
use Rattle.std.specs.Prelude.{Bool, cond, ◌||◌, List, ◌++◌, ℕ}
use Rattle.theory.specs.Text.{bytes}
use Rattle.theory.specs.Every.{run}
use Rattle.sizes.specs.Sizes.{time_length}
use Rattle.texts.specs.Field.{field, line_end}
use Rattle.fields.specs.Field.{zero_digit}
use Rattle.times.specs.Order.{earlier}
use Rattle.columns.specs.Columns.{valid_to}

-- zeros stay zeros; a time not later than reception becomes reception; a later one stays
unfoldable pub end_of : List ℕ → List ℕ → List ℕ
end_of reception v = cond (run zero_digit time_length v) v (cond (earlier reception v) v reception)

-- a record is active at t when its end is zeros or later than t
unfoldable pub active : List ℕ → List ℕ → Bool
active t l = run zero_digit time_length (valid_to l) || earlier t (valid_to l)

-- what a taken line becomes in its slot: `1`, positions 2-127 with Valid to replaced by its end, LF
unfoldable pub record_of : List ℕ → List ℕ → List ℕ
record_of reception l =
    bytes "1" ++ field 2 100 l ++ end_of reception (valid_to l) ++ field 115 127 l ++ line_end
