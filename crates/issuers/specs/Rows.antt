-- The issuer rows: their form (stop 24), the sender's rows (stop 29), and what a PAN finds in them (L3, L4).
-- Assumes nothing.
use Rattle.std.specs.Prelude.{ℕ, ◌/◌, ◌%◌, Bool, ◌&&◌, List, eqb, leb, ltb, length, take}
use Rattle.theory.specs.Same.{eqs}
use Rattle.theory.specs.Every.{run, leading}
use Rattle.theory.specs.Parts.{chop}
use Rattle.theory.specs.Walk.{each, some}
use Rattle.sizes.specs.Sizes.{row_length, rows_most}
use Rattle.issuers.specs.declared.Issued.{Issued}
use Rattle.texts.specs.Field.{field}
use Rattle.fields.specs.Field.{digit}
use Rattle.characters.specs.Characters.{filled}
use Rattle.numbers.specs.Number.{number}

-- BIN and extension 14, length of BIN ID 2, length of PAN 2, actor 6
abbrev pub bin : List ℕ → List ℕ
bin r = field 1 14 r

abbrev pub length_of_bin_id : List ℕ → ℕ
length_of_bin_id r = number (field 15 16 r)

abbrev pub length_of_pan : List ℕ → ℕ
length_of_pan r = number (field 17 18 r)

abbrev pub row_actor : List ℕ → List ℕ
row_actor r = field 19 24 r

-- BIN: at least six digits, then blanks; length of BIN ID: 06-14, not above the digits given; length of PAN: above
-- that, up to 19; actor: 6 digits
unfoldable pub row_holds : List ℕ → Bool
row_holds r =
    leb 6 (leading digit (bin r)) && filled digit (bin r)
    && run digit 2 (field 15 16 r) && leb 6 (length_of_bin_id r) && leb (length_of_bin_id r) 14 && leb (length_of_bin_id r) (leading digit (bin r))
    && run digit 2 (field 17 18 r) && ltb (length_of_bin_id r) (length_of_pan r) && leb (length_of_pan r) 19
    && run digit 6 (row_actor r)

abbrev pub rows_of : List ℕ → List (List ℕ)
rows_of b = chop row_length (length b / row_length) b

-- stop 24 is given where this does not hold: 0 to 64 rows of 24 bytes, each in form
unfoldable pub rows_hold : List ℕ → Bool
rows_hold b = eqb (length b % row_length) 0 && leb (length b / row_length) rows_most && each row_holds (rows_of b)

-- a row of the sender
unfoldable pub sent_by : List ℕ → List ℕ → Bool
sent_by sender r = eqs (row_actor r) sender

-- a row of the sender whose BIN ID digits begin the PAN
unfoldable pub row_begins : List ℕ → List ℕ → List ℕ → Bool
row_begins sender pan r = sent_by sender r && eqs (take (length_of_bin_id r) (bin r)) (take (length_of_bin_id r) pan)

-- such a row that has this number of digits
unfoldable pub row_fits : List ℕ → List ℕ → List ℕ → Bool
row_fits sender pan r = row_begins sender pan r && eqb (length_of_pan r) (leading digit pan)

-- stop 29, second half, is given where no issuer row has the sender
unfoldable pub known : List ℕ → List ℕ → Bool
known b sender = some (sent_by sender) (rows_of b)

-- L3 holds: there is a row of the sender whose BIN ID digits begin the PAN
unfoldable pub some_row_begins : List ℕ → List ℕ → List ℕ → Bool
some_row_begins b sender pan = some (row_begins sender pan) (rows_of b)

-- L4 holds: there is such a row that has this number of digits
unfoldable pub some_row_fits : List ℕ → List ℕ → List ℕ → Bool
some_row_fits b sender pan = some (row_fits sender pan) (rows_of b)

-- both, as they are answered together
unfoldable pub issued_of : List ℕ → List ℕ → List ℕ → Issued
issued_of b sender pan = record { begins = some_row_begins b sender pan; fits = some_row_fits b sender pan }
