-- The cases that the document marks with *, one table under one theorem (T6). Assumes nothing.
use Rattle.std.specs.Prelude.{◌≡◌, refl, Bool, true, false, not, cond, ◌&&◌, List, [], ◌∷◌, ℕ, eqb}
use Prim.Native.String.{String}
use Rattle.theory.specs.Text.{bytes}
use Rattle.theory.specs.Same.{eqs}
use Rattle.theory.specs.Every.{all, run, leading}
use Rattle.texts.specs.Field.{field}
use Rattle.numbers.specs.Number.{number, number_after}
use Rattle.calendar.specs.Calendar.{days_in}
use Rattle.times.specs.Time.{real_time}
use Rattle.times.specs.Order.{earlier}
use Rattle.pans.specs.Pan.{doubled, addend, luhn_sum, luhn}
use Rattle.plates.specs.Plate.{allowed, plate_characters, separated, separator}
use Rattle.lines.specs.End.{end_of}

-- a PAN passes Luhn or not; digits have this Luhn sum; a time is real or not; a plate may have these separators or not; a
-- Valid to, at a reception, has this end
pub data Case : Type 0 where
  luhn_is : String → Bool → Case
  sum_is : String → ℕ → Case
  real_is : String → Bool → Case
  separator_is : String → String → Bool → Case
  end_is : String → String → String → Case

unfoldable pub same : Bool → Bool → Bool
same a b = cond a b (not b)

-- the case is judged as the document says
unfoldable pub right : Case → Bool
right (luhn_is pan b) = same (luhn (bytes pan)) b
right (sum_is digits n) = eqb (luhn_sum (bytes digits)) n
right (real_is t b) = same (real_time (bytes t)) b
right (separator_is plate f b) = same (separator (bytes f) (plate_characters (bytes plate))) b
right (end_is v reception end) = eqs (end_of (bytes reception) (bytes v)) (bytes end)

unfoldable pub every : List Case → Bool
every [] = true
every (c ∷ cs) = right c && every cs

unfoldable pub starred : List Case
starred =
    luhn_is "9799001200000002   " true
    ∷ luhn_is "9799001200000010   " true
    ∷ luhn_is "9799001200000028   " true
    ∷ luhn_is "9799001200000003   " false
    ∷ sum_is "9799001200000003" 41
    ∷ real_is "20240229235959" true
    ∷ real_is "20000229000000" true
    ∷ real_is "20230229000000" false
    ∷ real_is "20250310240000" false
    ∷ separator_is "ABC123    " "30" true
    ∷ separator_is "ABC123    " "60" true
    ∷ separator_is "ABC123    " "37" true
    ∷ separator_is "ABC123    " "70" false
    ∷ separator_is "ABC123    " "38" false
    ∷ separator_is "ABC123    " "10" false
    ∷ separator_is "ABC123B   " "38" true
    ∷ end_is "20250310050000" "20250310050000" "20250310050000"
    ∷ end_is "20250310050001" "20250310050000" "20250310050001"
    ∷ []

pub starred_right : every starred ≡ true
unfolding every right same starred luhn luhn_sum addend doubled real_time days_in separator separated allowed leading run all field number number_after end_of earlier eqs
starred_right = refl
