-- The columns of a body line, by their positions in the document's table. Assumes nothing.
use Rattle.std.specs.Prelude.{List, ℕ, ◌-◌}
use Rattle.texts.specs.Field.{field}

-- the text of a line of width w: what stands between the register identifier and the end of the record
abbrev pub text : ℕ → List ℕ → List ℕ
text w l = field 2 (w - 1) l

abbrev pub actor : List ℕ → List ℕ
actor l = field 2 7 l

abbrev pub shadow : List ℕ → List ℕ
shadow l = field 8 13 l

abbrev pub pan_of : List ℕ → List ℕ
pan_of l = field 14 32 l

abbrev pub plate_of : List ℕ → List ℕ
plate_of l = field 33 42 l

abbrev pub nationality_of : List ℕ → List ℕ
nationality_of l = field 43 45 l

abbrev pub tariff : List ℕ → List ℕ
tariff l = field 46 47 l

abbrev pub class : List ℕ → List ℕ
class l = field 48 48 l

abbrev pub axles : List ℕ → List ℕ
axles l = field 49 49 l

abbrev pub context_mark : List ℕ → List ℕ
context_mark l = field 50 61 l

abbrev pub obe_id : List ℕ → List ℕ
obe_id l = field 62 79 l

abbrev pub emission : List ℕ → List ℕ
emission l = field 80 85 l

abbrev pub fuel : List ℕ → List ℕ
fuel l = field 86 87 l

-- is the vehicle a chargeable hybrid
abbrev pub chargeable : List ℕ → List ℕ
chargeable l = field 88 88 l

abbrev pub product_rest : List ℕ → List ℕ
product_rest l = field 89 91 l

abbrev pub engine : List ℕ → List ℕ
engine l = field 92 94 l

abbrev pub co2 : List ℕ → List ℕ
co2 l = field 95 96 l

abbrev pub weight : List ℕ → List ℕ
weight l = field 97 100 l

abbrev pub valid_to : List ℕ → List ℕ
valid_to l = field 101 114 l

abbrev pub separator_of : List ℕ → List ℕ
separator_of l = field 115 116 l

abbrev pub filler : List ℕ → List ℕ
filler l = field 117 127 l
