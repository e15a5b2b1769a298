-- What L10 asks of a line's fields: what it says of the vehicle, its end and its separators, field by field. A rule's name stands
-- for "it holds". Assumes nothing.
use Rattle.std.specs.Prelude.{ℕ, Bool, ◌&&◌, ◌||◌, List, eqb, leb}
use Rattle.theory.specs.Text.{bytes}
use Rattle.theory.specs.Every.{run}
use Rattle.sizes.specs.Sizes.{time_length}
use Rattle.texts.specs.Field.{listed}
use Rattle.fields.specs.Field.{digit, zero_digit, blank}
use Rattle.numbers.specs.Number.{number}
use Rattle.times.specs.Time.{real_time}
use Rattle.plates.specs.Plate.{plate_characters, separator}
use Rattle.columns.specs.Columns.{shadow, plate_of, tariff, class, axles, emission, fuel, chargeable, product_rest, engine, co2, weight, valid_to, separator_of, filler}

-- tariff: 12 22 31 32 41 51 63 71
unfoldable pub tariff_holds : List ℕ → Bool
tariff_holds l = listed 2 (bytes "1222313241516371") (tariff l)

-- class and axles: digit or blank, each alone
unfoldable pub class_holds : List ℕ → Bool
class_holds l = (run digit 1 (class l) || run blank 1 (class l)) && (run digit 1 (axles l) || run blank 1 (axles l))

-- emission: `0`, `EEV`, `Euro1` to `Euro7`, blank padded
unfoldable pub emission_holds : List ℕ → Bool
emission_holds l = listed 6 (bytes "0     EEV   Euro1 Euro2 Euro3 Euro4 Euro5 Euro6 Euro7 ") (emission l)

-- fuel: 01-06 09-15 20-22; 88: Y or N; 89-91 blank
unfoldable pub product_holds : List ℕ → Bool
product_holds l = listed 2 (bytes "01020304050609101112131415202122") (fuel l) && listed 1 (bytes "YN") (chargeable l) && run blank 3 (product_rest l)

-- engine: 000-052 or 255
unfoldable pub engine_holds : List ℕ → Bool
engine_holds l = run digit 3 (engine l) && (leb (number (engine l)) 52 || eqb (number (engine l)) 255)

-- Valid to: 14 zeros or a real time
unfoldable pub valid_to_holds : List ℕ → Bool
valid_to_holds l = run zero_digit time_length (valid_to l) || real_time (valid_to l)

-- separator, of a plate of so many characters
unfoldable pub separator_holds : List ℕ → Bool
separator_holds l = separator (separator_of l) (plate_characters (plate_of l))

-- the fields of L10 but emission
unfoldable pub fields_hold : List ℕ → Bool
fields_hold l =
    run blank 6 (shadow l) && tariff_holds l && class_holds l && product_holds l && engine_holds l
    && run digit 2 (co2 l) && run digit 4 (weight l) && valid_to_holds l && separator_holds l && run zero_digit 11 (filler l)

-- what L10 asks of the fields, a weight of four digits among them
unfoldable pub vehicle_holds : List ℕ → Bool
vehicle_holds l = emission_holds l && fields_hold l
