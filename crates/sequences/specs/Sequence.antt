-- The sequence of a list. Assumes nothing.
use Rattle.std.specs.Prelude.{ℕ, Bool, ◌&&◌, List, eqb, leb, length}
use Rattle.theory.specs.Text.{bytes}
use Rattle.theory.specs.Same.{eqs}
use Rattle.theory.specs.Every.{run}
use Rattle.texts.specs.Field.{field}
use Rattle.fields.specs.Field.{digit}
use Rattle.numbers.specs.Number.{number}
use Rattle.times.specs.Time.{real_date}

abbrev pub list_length : ℕ
list_length = 19

-- `HGV`, sender, real date, 01-99
unfoldable pub sequence : List ℕ → List ℕ → Bool
sequence from f =
    eqb (length f) list_length && eqs (field 1 3 f) (bytes "HGV") && eqs (field 4 9 f) from && real_date (field 10 17 f)
    && run digit 2 (field 18 19 f) && leb 1 (number (field 18 19 f))
