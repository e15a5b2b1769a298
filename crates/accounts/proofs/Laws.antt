-- The line of an account, written text by text. Assumes nothing.
use mathlib.Core.Path.{◌≡◌, ap, ◌∙◌}
use mathlib.Core.List.{List, [], ◌∷◌, append_assoc, append-nil}
use Prim.Native.Nat.{ℕ, ◌+◌, ◌-◌, ◌≤◌}
use native.Mathlib.Omega.{arith}
use lib.ListN.{length}
use Rattle.theory.specs.Text.{bytes}
use Rattle.theory.specs.Join.{flat}
use Rattle.sizes.specs.Sizes.{line_length}
use Rattle.texts.specs.Field.{field, line_end}
use Rattle.texts.specs.laws.Field.{field_length}
use Rattle.texts.specs.laws.Pieces.{length_pieces}
use Rattle.writing.specs.Put.{put_field}
use Rattle.writing.specs.laws.Put.{put_ap}
use Rattle.writing.specs.laws.Laid.{all_done, then, in_turn}
use Rattle.accounts.specs.Account.{account_length, sender_length, key_texts, tag_texts, product_texts, measure_texts, end_texts, account_line}
use Rattle.accounts.specs.laws.Account.{keys_wide, tag_wide, product_wide, measures_wide, end_wide}

-- a column is as long as its positions
pub column_length : (from to : ℕ) (a f : List ℕ) → f ≡ field from to a → 1 ≤ from → to ≤ length a → length f ≡ to + 1 - from
column_length from to a f e o h = ap length e ∙ field_length from to a o h

module _ (at : ℕ) (a s₀ : List ℕ) (room : at + line_length ≤ length s₀) (sized : length a ≡ account_length) where
  -- as long as its positions
  wide : (from to : ℕ) → 1 ≤ from → to ≤ account_length → length (field from to a) ≡ to + 1 - from
  wide from to o k = field_length from to a o (omega arith)

  pub keys_written : (sender s₁ s₂ s₃ s₄ s₅ s₆ : List ℕ) → length sender ≡ sender_length
      → s₁ ≡ put_field (at + 1) (bytes "1") s₀ → s₂ ≡ put_field (at + 2) sender s₁ → s₃ ≡ put_field (at + 8) (bytes "      ") s₂
      → s₄ ≡ put_field (at + 14) (field 1 19 a) s₃ → s₅ ≡ put_field (at + 33) (field 20 29 a) s₄ → s₆ ≡ put_field (at + 43) (field 30 32 a) s₅
      → s₆ ≡ put_field (at + 1) (flat (key_texts sender a)) s₀
  keys_written sender s₁ s₂ s₃ s₄ s₅ s₆ l e₁ e₂ e₃ e₄ e₅ e₆ =
      in_turn {r = at + 46}
      (then {q = at + 2} e₁ (omega arith)
      (then {q = at + 8} e₂ (omega arith)
      (then {q = at + 14} e₃ (omega arith)
      (then {q = at + 33} e₄ (omega (arith, wide 1 19 (omega arith) (omega arith)))
      (then {q = at + 43} e₅ (omega (arith, wide 20 29 (omega arith) (omega arith)))
      (then {q = at + 46} e₆ (omega (arith, wide 30 32 (omega arith) (omega arith))) all_done)))))) (omega arith) (omega arith)

  pub tag_written : (s₁ s₂ s₃ s₄ s₅ : List ℕ)
      → s₁ ≡ put_field (at + 46) (field 33 34 a) s₀ → s₂ ≡ put_field (at + 48) (field 35 35 a) s₁ → s₃ ≡ put_field (at + 49) (field 36 36 a) s₂
      → s₄ ≡ put_field (at + 50) (field 37 48 a) s₃ → s₅ ≡ put_field (at + 62) (field 49 66 a) s₄
      → s₅ ≡ put_field (at + 46) (flat (tag_texts a)) s₀
  tag_written s₁ s₂ s₃ s₄ s₅ e₁ e₂ e₃ e₄ e₅ =
      in_turn {r = at + 80}
      (then {q = at + 48} e₁ (omega (arith, wide 33 34 (omega arith) (omega arith)))
      (then {q = at + 49} e₂ (omega (arith, wide 35 35 (omega arith) (omega arith)))
      (then {q = at + 50} e₃ (omega (arith, wide 36 36 (omega arith) (omega arith)))
      (then {q = at + 62} e₄ (omega (arith, wide 37 48 (omega arith) (omega arith)))
      (then {q = at + 80} e₅ (omega (arith, wide 49 66 (omega arith) (omega arith))) all_done))))) (omega arith) (omega arith)

  pub product_written : (s₁ s₂ s₃ s₄ : List ℕ)
      → s₁ ≡ put_field (at + 80) (field 67 72 a) s₀ → s₂ ≡ put_field (at + 86) (field 73 74 a) s₁ → s₃ ≡ put_field (at + 88) (field 75 75 a) s₂
      → s₄ ≡ put_field (at + 89) (bytes "   ") s₃
      → s₄ ≡ put_field (at + 80) (flat (product_texts a)) s₀
  product_written s₁ s₂ s₃ s₄ e₁ e₂ e₃ e₄ =
      in_turn {r = at + 92}
      (then {q = at + 86} e₁ (omega (arith, wide 67 72 (omega arith) (omega arith)))
      (then {q = at + 88} e₂ (omega (arith, wide 73 74 (omega arith) (omega arith)))
      (then {q = at + 89} e₃ (omega (arith, wide 75 75 (omega arith) (omega arith)))
      (then {q = at + 92} e₄ (omega arith) all_done)))) (omega arith) (omega arith)

  pub measures_written : (s₁ s₂ s₃ : List ℕ)
      → s₁ ≡ put_field (at + 92) (field 76 78 a) s₀ → s₂ ≡ put_field (at + 95) (field 79 80 a) s₁ → s₃ ≡ put_field (at + 97) (field 81 84 a) s₂
      → s₃ ≡ put_field (at + 92) (flat (measure_texts a)) s₀
  measures_written s₁ s₂ s₃ e₁ e₂ e₃ =
      in_turn {r = at + 101}
      (then {q = at + 95} e₁ (omega (arith, wide 76 78 (omega arith) (omega arith)))
      (then {q = at + 97} e₂ (omega (arith, wide 79 80 (omega arith) (omega arith)))
      (then {q = at + 101} e₃ (omega (arith, wide 81 84 (omega arith) (omega arith))) all_done))) (omega arith) (omega arith)

  pub end_written : (s₁ s₂ s₃ s₄ : List ℕ)
      → s₁ ≡ put_field (at + 101) (field 85 98 a) s₀ → s₂ ≡ put_field (at + 115) (field 99 100 a) s₁ → s₃ ≡ put_field (at + 117) (bytes "00000000000") s₂
      → s₄ ≡ put_field (at + line_length) line_end s₃
      → s₄ ≡ put_field (at + 101) (flat (end_texts a)) s₀
  end_written s₁ s₂ s₃ s₄ e₁ e₂ e₃ e₄ =
      in_turn {r = at + line_length + 1}
      (then {q = at + 115} e₁ (omega (arith, wide 85 98 (omega arith) (omega arith)))
      (then {q = at + 117} e₂ (omega (arith, wide 99 100 (omega arith) (omega arith)))
      (then {q = at + line_length} e₃ (omega arith)
      (then {q = at + line_length + 1} e₄ (omega arith) all_done)))) (omega arith) (omega arith)

-- the five parts of the line are the line
parts_line : (sender a : List ℕ) → flat (flat (key_texts sender a) ∷ flat (tag_texts a) ∷ flat (product_texts a) ∷ flat (measure_texts a) ∷ flat (end_texts a) ∷ []) ≡ account_line sender a
unfolding account_line flat
parts_line sender a = simp (append_assoc, append-nil)

pub line_written : (from : ℕ) (sender a s₀ s₁ s₂ s₃ s₄ s₅ : List ℕ) → 1 ≤ from → from - 1 + line_length ≤ length s₀ → length sender ≡ sender_length → length a ≡ account_length
    → s₁ ≡ put_field (from - 1 + 1) (flat (key_texts sender a)) s₀ → s₂ ≡ put_field (from - 1 + 46) (flat (tag_texts a)) s₁ → s₃ ≡ put_field (from - 1 + 80) (flat (product_texts a)) s₂
    → s₄ ≡ put_field (from - 1 + 92) (flat (measure_texts a)) s₃ → s₅ ≡ put_field (from - 1 + 101) (flat (end_texts a)) s₄
    → s₅ ≡ put_field from (account_line sender a) s₀
line_written from sender a s₀ s₁ s₂ s₃ s₄ s₅ o r l m e₁ e₂ e₃ e₄ e₅ =
    let f : from - 1 + 1 ≡ from = omega arith in
    in_turn {p = from} {r = from - 1 + line_length + 1}
    (then {q = from - 1 + 46} (e₁ ∙ rw f) (omega (arith, length_pieces (keys_wide a m sender l)))
    (then {q = from - 1 + 80} e₂ (omega (arith, length_pieces (tag_wide a m)))
    (then {q = from - 1 + 92} e₃ (omega (arith, length_pieces (product_wide a m)))
    (then {q = from - 1 + 101} e₄ (omega (arith, length_pieces (measures_wide a m)))
    (then {q = from - 1 + line_length + 1} e₅ (omega (arith, length_pieces (end_wide a m))) all_done))))) o (omega arith)
    ∙ put_ap from s₀ (parts_line sender a)
