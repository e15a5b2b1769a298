-- The line of an account, column by column: each text of it stands where the document's table has it. Assumes nothing.
use Rattle.std.specs.Prelude.{◌≡◌, refl, List, [], ◌∷◌, ℕ, ◌+◌, ◌-◌, ◌≤◌, ◌<◌, length, get_or}
use Rattle.std.proofs.Common.{sym, ap, ◌∙◌, arith}
use Rattle.theory.specs.Text.{bytes}
use Rattle.sizes.specs.Sizes.{line_length}
use Rattle.texts.specs.Field.{field, line_end}
use Rattle.texts.specs.laws.Field.{field_length, field_split, field_all}
use Rattle.texts.specs.laws.Pieces.{behind, Wide, no_more, then, wide_append, piece, length_pieces}
use Rattle.columns.specs.Columns as columns
use Rattle.accounts.specs.Account.{account_length, sender_length, account_pan, account_plate, account_nationality, account_tariff, account_class, account_axles, account_context_mark, account_obe_id, account_emission, account_fuel, account_chargeable, account_engine, account_co2, account_weight, account_valid_to, account_separator, key_texts, tag_texts, product_texts, measure_texts, end_texts, line_texts, account_line}

module _ (a : List ℕ) (sized : length a ≡ account_length) where
  -- a column is as long as its positions
  wide : (from to : ℕ) → 1 ≤ from → to ≤ account_length → length (field from to a) ≡ to + 1 - from
  wide from to o k = field_length from to a o (omega arith)

  -- the texts of the line, part by part
  pub tag_wide : Wide (2 ∷ 1 ∷ 1 ∷ 12 ∷ 18 ∷ []) (tag_texts a)
  tag_wide = then (wide 33 34 (omega arith) (omega arith)) (then (wide 35 35 (omega arith) (omega arith)) (then (wide 36 36 (omega arith) (omega arith)) (then (wide 37 48 (omega arith) (omega arith)) (then (wide 49 66 (omega arith) (omega arith)) no_more))))

  pub product_wide : Wide (6 ∷ 2 ∷ 1 ∷ 3 ∷ []) (product_texts a)
  product_wide = then (wide 67 72 (omega arith) (omega arith)) (then (wide 73 74 (omega arith) (omega arith)) (then (wide 75 75 (omega arith) (omega arith)) (then refl no_more)))

  pub measures_wide : Wide (3 ∷ 2 ∷ 4 ∷ []) (measure_texts a)
  measures_wide = then (wide 76 78 (omega arith) (omega arith)) (then (wide 79 80 (omega arith) (omega arith)) (then (wide 81 84 (omega arith) (omega arith)) no_more))

  pub end_wide : Wide (14 ∷ 2 ∷ 11 ∷ 1 ∷ []) (end_texts a)
  end_wide = then (wide 85 98 (omega arith) (omega arith)) (then (wide 99 100 (omega arith) (omega arith)) (then refl (then refl no_more)))

  module _ (sender : List ℕ) (six : length sender ≡ sender_length) where
    pub keys_wide : Wide (1 ∷ 6 ∷ 6 ∷ 19 ∷ 10 ∷ 3 ∷ []) (key_texts sender a)
    keys_wide = then refl (then (six) (then refl (then (wide 1 19 (omega arith) (omega arith)) (then (wide 20 29 (omega arith) (omega arith)) (then (wide 30 32 (omega arith) (omega arith)) no_more)))))

    -- and all of them
    abbrev widths : List ℕ
    widths = 1 ∷ 6 ∷ 6 ∷ 19 ∷ 10 ∷ 3 ∷ 2 ∷ 1 ∷ 1 ∷ 12 ∷ 18 ∷ 6 ∷ 2 ∷ 1 ∷ 3 ∷ 3 ∷ 2 ∷ 4 ∷ 14 ∷ 2 ∷ 11 ∷ 1 ∷ []

    line_wide : Wide widths (line_texts sender a)
    line_wide = wide_append keys_wide (wide_append tag_wide (wide_append product_wide (wide_append measures_wide end_wide)))

    abbrev line : List ℕ
    line = account_line sender a

    pub length_line : length line ≡ line_length
    unfolding account_line
    length_line = length_pieces line_wide

    -- the text at place i
    text_at_lem : (i from to : ℕ) → i < length widths → behind i widths + 1 ≡ from → behind (i + 1) widths ≡ to → field from to line ≡ get_or (line_texts sender a) i []
    unfolding account_line
    text_at_lem i from to = piece i from to line_wide

    pub line_type : field 1 1 line ≡ bytes "1"
    line_type = text_at_lem 0 1 1 (omega arith) refl refl

    pub line_actor : columns.actor line ≡ sender
    line_actor = text_at_lem 1 2 7 (omega arith) refl refl

    pub line_shadow : columns.shadow line ≡ bytes "      "
    line_shadow = text_at_lem 2 8 13 (omega arith) refl refl

    pub line_pan : columns.pan_of line ≡ account_pan a
    line_pan = text_at_lem 3 14 32 (omega arith) refl refl

    pub line_plate : columns.plate_of line ≡ account_plate a
    line_plate = text_at_lem 4 33 42 (omega arith) refl refl

    pub line_nationality : columns.nationality_of line ≡ account_nationality a
    line_nationality = text_at_lem 5 43 45 (omega arith) refl refl

    pub line_tariff : columns.tariff line ≡ account_tariff a
    line_tariff = text_at_lem 6 46 47 (omega arith) refl refl

    pub line_class : columns.class line ≡ account_class a
    line_class = text_at_lem 7 48 48 (omega arith) refl refl

    pub line_axles : columns.axles line ≡ account_axles a
    line_axles = text_at_lem 8 49 49 (omega arith) refl refl

    pub line_context_mark : columns.context_mark line ≡ account_context_mark a
    line_context_mark = text_at_lem 9 50 61 (omega arith) refl refl

    pub line_obe_id : columns.obe_id line ≡ account_obe_id a
    line_obe_id = text_at_lem 10 62 79 (omega arith) refl refl

    pub line_emission : columns.emission line ≡ account_emission a
    line_emission = text_at_lem 11 80 85 (omega arith) refl refl

    pub line_fuel : columns.fuel line ≡ account_fuel a
    line_fuel = text_at_lem 12 86 87 (omega arith) refl refl

    pub line_chargeable : columns.chargeable line ≡ account_chargeable a
    line_chargeable = text_at_lem 13 88 88 (omega arith) refl refl

    pub line_product_rest : columns.product_rest line ≡ bytes "   "
    line_product_rest = text_at_lem 14 89 91 (omega arith) refl refl

    pub line_engine : columns.engine line ≡ account_engine a
    line_engine = text_at_lem 15 92 94 (omega arith) refl refl

    pub line_co2 : columns.co2 line ≡ account_co2 a
    line_co2 = text_at_lem 16 95 96 (omega arith) refl refl

    pub line_weight : columns.weight line ≡ account_weight a
    line_weight = text_at_lem 17 97 100 (omega arith) refl refl

    pub line_valid_to : columns.valid_to line ≡ account_valid_to a
    line_valid_to = text_at_lem 18 101 114 (omega arith) refl refl

    pub line_separator : columns.separator_of line ≡ account_separator a
    line_separator = text_at_lem 19 115 116 (omega arith) refl refl

    pub line_filler : columns.filler line ≡ bytes "00000000000"
    line_filler = text_at_lem 20 117 127 (omega arith) refl refl

    pub line_end_lem : field line_length line_length line ≡ line_end
    line_end_lem = text_at_lem 21 line_length line_length (omega arith) refl refl

-- ---- one account has this line

-- two accounts that agree in positions from .. mid and mid + 1 .. to agree in both
agree : (a b : List ℕ) (from mid to : ℕ) → 1 ≤ from → from ≤ mid → mid ≤ to → field from mid a ≡ field from mid b → field (mid + 1) to a ≡ field (mid + 1) to b
    → field from to a ≡ field from to b
agree a b from mid to o k l e f = field_split from to mid a o k l ∙ rw (e, f) (sym (field_split from to mid b o k l))

pub account_one : (sender a b : List ℕ) → length sender ≡ sender_length → length a ≡ account_length → length b ≡ account_length → account_line sender a ≡ account_line sender b → a ≡ b
account_one sender a b s m n e =
    sym (field_all account_length a (omega arith))
    ∙ agree a b 1 19 100 (omega arith) (omega arith) (omega arith) (column 14 32 (line_pan a m sender s) (line_pan b n sender s))
    (agree a b 20 29 100 (omega arith) (omega arith) (omega arith) (column 33 42 (line_plate a m sender s) (line_plate b n sender s))
    (agree a b 30 32 100 (omega arith) (omega arith) (omega arith) (column 43 45 (line_nationality a m sender s) (line_nationality b n sender s))
    (agree a b 33 34 100 (omega arith) (omega arith) (omega arith) (column 46 47 (line_tariff a m sender s) (line_tariff b n sender s))
    (agree a b 35 35 100 (omega arith) (omega arith) (omega arith) (column 48 48 (line_class a m sender s) (line_class b n sender s))
    (agree a b 36 36 100 (omega arith) (omega arith) (omega arith) (column 49 49 (line_axles a m sender s) (line_axles b n sender s))
    (agree a b 37 48 100 (omega arith) (omega arith) (omega arith) (column 50 61 (line_context_mark a m sender s) (line_context_mark b n sender s))
    (agree a b 49 66 100 (omega arith) (omega arith) (omega arith) (column 62 79 (line_obe_id a m sender s) (line_obe_id b n sender s))
    (agree a b 67 72 100 (omega arith) (omega arith) (omega arith) (column 80 85 (line_emission a m sender s) (line_emission b n sender s))
    (agree a b 73 74 100 (omega arith) (omega arith) (omega arith) (column 86 87 (line_fuel a m sender s) (line_fuel b n sender s))
    (agree a b 75 75 100 (omega arith) (omega arith) (omega arith) (column 88 88 (line_chargeable a m sender s) (line_chargeable b n sender s))
    (agree a b 76 78 100 (omega arith) (omega arith) (omega arith) (column 92 94 (line_engine a m sender s) (line_engine b n sender s))
    (agree a b 79 80 100 (omega arith) (omega arith) (omega arith) (column 95 96 (line_co2 a m sender s) (line_co2 b n sender s))
    (agree a b 81 84 100 (omega arith) (omega arith) (omega arith) (column 97 100 (line_weight a m sender s) (line_weight b n sender s))
    (agree a b 85 98 100 (omega arith) (omega arith) (omega arith) (column 101 114 (line_valid_to a m sender s) (line_valid_to b n sender s))
    (column 115 116 (line_separator a m sender s) (line_separator b n sender s))))))))))))))))
    ∙ field_all account_length b (omega arith)
  where
    column : (from to : ℕ) {x y : List ℕ} → field from to (account_line sender a) ≡ x → field from to (account_line sender b) ≡ y → x ≡ y
    column from to p q = sym p ∙ ap (field from to) e ∙ q
