-- An account as a provider gives it, 100 bytes in 16 columns, and the line that an HGV has for it. Assumes nothing.
use Rattle.std.specs.Prelude.{List, [], ◌∷◌, ◌++◌, ℕ}
use Rattle.theory.specs.Text.{bytes}
use Rattle.theory.specs.Join.{flat}
use Rattle.texts.specs.Field.{field, line_end}

abbrev pub account_length : ℕ
account_length = 100

abbrev pub sender_length : ℕ
sender_length = 6

-- ---- the columns, by their positions

abbrev pub account_pan : List ℕ → List ℕ
account_pan a = field 1 19 a

abbrev pub account_plate : List ℕ → List ℕ
account_plate a = field 20 29 a

abbrev pub account_nationality : List ℕ → List ℕ
account_nationality a = field 30 32 a

abbrev pub account_tariff : List ℕ → List ℕ
account_tariff a = field 33 34 a

abbrev pub account_class : List ℕ → List ℕ
account_class a = field 35 35 a

abbrev pub account_axles : List ℕ → List ℕ
account_axles a = field 36 36 a

abbrev pub account_context_mark : List ℕ → List ℕ
account_context_mark a = field 37 48 a

abbrev pub account_obe_id : List ℕ → List ℕ
account_obe_id a = field 49 66 a

abbrev pub account_emission : List ℕ → List ℕ
account_emission a = field 67 72 a

abbrev pub account_fuel : List ℕ → List ℕ
account_fuel a = field 73 74 a

-- the letter of position 88
abbrev pub account_chargeable : List ℕ → List ℕ
account_chargeable a = field 75 75 a

abbrev pub account_engine : List ℕ → List ℕ
account_engine a = field 76 78 a

abbrev pub account_co2 : List ℕ → List ℕ
account_co2 a = field 79 80 a

abbrev pub account_weight : List ℕ → List ℕ
account_weight a = field 81 84 a

abbrev pub account_valid_to : List ℕ → List ℕ
account_valid_to a = field 85 98 a

abbrev pub account_separator : List ℕ → List ℕ
account_separator a = field 99 100 a

-- ---- the line, text by text in the document's order

-- `1`, actor = sender, shadow blank, PAN, plate, nationality
abbrev pub key_texts : List ℕ → List ℕ → List (List ℕ)
key_texts sender a = bytes "1" ∷ sender ∷ bytes "      " ∷ account_pan a ∷ account_plate a ∷ account_nationality a ∷ []

-- tariff, class, axles, context mark, OBE ID
abbrev pub tag_texts : List ℕ → List (List ℕ)
tag_texts a = account_tariff a ∷ account_class a ∷ account_axles a ∷ account_context_mark a ∷ account_obe_id a ∷ []

-- emission, fuel, 88, 89-91 blank
abbrev pub product_texts : List ℕ → List (List ℕ)
product_texts a = account_emission a ∷ account_fuel a ∷ account_chargeable a ∷ bytes "   " ∷ []

-- engine, CO2, weight
abbrev pub measure_texts : List ℕ → List (List ℕ)
measure_texts a = account_engine a ∷ account_co2 a ∷ account_weight a ∷ []

-- Valid to, separator, 117-127 zeros, LF
abbrev pub end_texts : List ℕ → List (List ℕ)
end_texts a = account_valid_to a ∷ account_separator a ∷ bytes "00000000000" ∷ line_end ∷ []

abbrev pub line_texts : List ℕ → List ℕ → List (List ℕ)
line_texts sender a = key_texts sender a ++ tag_texts a ++ product_texts a ++ measure_texts a ++ end_texts a

-- the line that an account of this sender has
unfoldable pub account_line : List ℕ → List ℕ → List ℕ
account_line sender a = flat (line_texts sender a)
