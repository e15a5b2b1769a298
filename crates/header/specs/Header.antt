-- The HGV's header: its fields, and its form (stop 26). Assumes nothing.
use Rattle.std.specs.Prelude.{ℕ, Bool, ◌&&◌, ◌||◌, List}
use Rattle.theory.specs.Text.{bytes}
use Rattle.theory.specs.Same.{eqs}
use Rattle.theory.specs.Every.{run}
use Rattle.sizes.specs.Sizes.{header_length}
use Rattle.texts.specs.Field.{field, line_end}
use Rattle.fields.specs.Field.{digit, zero_digit}
use Rattle.times.specs.Time.{real_time}
use Rattle.sequences.specs.Sequence.{sequence}

-- ---- the fields, by their positions

abbrev pub sender : List ℕ → List ℕ
sender h = field 2 7 h

abbrev pub receiver : List ℕ → List ℕ
receiver h = field 8 13 h

abbrev pub list_sequence : List ℕ → List ℕ
list_sequence h = field 14 32 h

abbrev pub previous : List ℕ → List ℕ
previous h = field 33 51 h

abbrev pub count : List ℕ → List ℕ
count h = field 66 80 h

abbrev pub creation : List ℕ → List ℕ
creation h = field 81 94 h

abbrev pub version : List ℕ → List ℕ
version h = field 95 100 h

-- ---- their forms

-- the previous sequence of a first list: `HGV` and 16 zeros
abbrev pub no_list : List ℕ
no_list = bytes "HGV0000000000000000"

-- the previous sequence: of the same form and sender, or none
unfoldable pub previous_holds : List ℕ → Bool
previous_holds h = sequence (sender h) (previous h) || eqs (previous h) no_list

-- stop 26 is given where this does not hold: `0`; sender 6 digits; receiver 6 digits; list sequence; previous sequence
-- of the same form and sender, or `HGV` and 16 zeros; 14 zeros; count 15 digits; creation, a real time; 27 zeros; LF
unfoldable pub header_holds : List ℕ → Bool
header_holds h =
    eqs (field 1 1 h) (bytes "0") && run digit 6 (sender h) && run digit 6 (receiver h)
    && sequence (sender h) (list_sequence h)
    && previous_holds h
    && run zero_digit 14 (field 52 65 h) && run digit 15 (count h) && real_time (creation h)
    && run zero_digit 27 (field 101 127 h) && eqs (field header_length header_length h) line_end
