-- The rules of a line, L1 to L10, and those of a record. A rule's name stands for "it holds"; a line that the
-- document's sentence fits breaks it. Assumes nothing.
use Rattle.std.specs.Prelude.{ℕ, Bool, not, ◌&&◌, List, [], ◌∷◌}
use Rattle.theory.specs.First.{Rule, ◌if◌, first}
use Rattle.theory.specs.Same.{eqs}
use Rattle.theory.specs.Every.{run}
use Rattle.fields.specs.Field.{digit, blank}
use Rattle.characters.specs.Characters.{hex}
use Rattle.pans.specs.Pan.{pan, luhn}
use Rattle.plates.specs.Plate.{plate, nationality}
use Rattle.issuers.specs.Rows.{some_row_begins, some_row_fits}
use Rattle.columns.specs.Columns.{actor, pan_of, plate_of, nationality_of, context_mark, obe_id}
use Rattle.vehicles.specs.Vehicle.{vehicle_holds}
use Rattle.weights.specs.Weights.{weight_holds}

-- PAN: 1-19 digits then blanks
unfoldable pub L1 : List ℕ → Bool
L1 l = pan (pan_of l)

-- the actor is the sender
unfoldable pub L2 : List ℕ → List ℕ → Bool
L2 sender l = eqs (actor l) sender

-- a row of the sender whose BIN ID digits begin the PAN
unfoldable pub L3 : List ℕ → List ℕ → List ℕ → Bool
L3 rows sender l = some_row_begins rows sender (pan_of l)

-- such a row has this number of digits
unfoldable pub L4 : List ℕ → List ℕ → List ℕ → Bool
L4 rows sender l = some_row_fits rows sender (pan_of l)

-- Luhn sum, check digit last, a multiple of ten
unfoldable pub L5 : List ℕ → Bool
L5 l = luhn (pan_of l)

-- plate: 1-10 allowed characters then blanks
unfoldable pub L6 : List ℕ → Bool
L6 l = plate (plate_of l)

-- nationality: two capitals and a blank. All blank has a reason of its own
unfoldable pub L7 : List ℕ → Bool
L7 l = nationality (nationality_of l)

unfoldable pub nationality_blank : List ℕ → Bool
nationality_blank l = run blank 3 (nationality_of l)

-- context mark: 12 digits 0-9A-F
unfoldable pub L8 : List ℕ → Bool
L8 l = run hex 12 (context_mark l)

-- OBE ID: 18 such digits
unfoldable pub L9 : List ℕ → Bool
L9 l = run hex 18 (obe_id l)

-- what the line says of the vehicle, field by field, and the limits of weight
unfoldable pub L10 : List ℕ → Bool
L10 l = vehicle_holds l && weight_holds l

-- ---- a line, and a record

-- L1 to L10 in their order, each with its reason; whether L10 holds is given
unfoldable pub rules_by : Bool → List ℕ → List ℕ → List ℕ → List Rule
rules_by l10 rows sender l =
    (3 if not (L1 l))
    ∷ (4 if not (L2 sender l))
    ∷ (4 if not (L3 rows sender l))
    ∷ (3 if not (L4 rows sender l))
    ∷ (2 if not (L5 l))
    ∷ (9 if not (L6 l))
    ∷ (6 if nationality_blank l)
    ∷ (9 if not (L7 l))
    ∷ (8 if not (L8 l))
    ∷ (5 if not (L9 l))
    ∷ (12 if not l10)
    ∷ []

unfoldable pub line_rules : List ℕ → List ℕ → List ℕ → List Rule
line_rules rows sender l = rules_by (L10 l) rows sender l

-- the reason of the first that fits, 0 where none does
unfoldable pub line_fault : List ℕ → List ℕ → List ℕ → ℕ
line_fault rows sender l = first (line_rules rows sender l)

-- six-digit actor, and L1, L5 to L10 hold, but for the limits of weight: what is stored is not judged by them
unfoldable pub record_holds : List ℕ → Bool
record_holds l = run digit 6 (actor l) && L1 l && L5 l && L6 l && L7 l && L8 l && L9 l && vehicle_holds l
