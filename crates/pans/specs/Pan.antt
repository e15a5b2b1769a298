-- The personal account number: rules L1 and L5. Assumes nothing.
use Rattle.std.specs.Prelude.{ℕ, ◌+◌, ◌*◌, ◌-◌, ◌/◌, ◌%◌, Bool, cond, ◌&&◌, List, [], ◌∷◌, eqb, length, take}
use Rattle.theory.specs.Text.{byte}
use Rattle.theory.specs.Every.{leading}
use Rattle.fields.specs.Field.{digit}
use Rattle.characters.specs.Characters.{filled}

-- the field's length
abbrev pub pan_length : ℕ
pan_length = 19

-- L1: 1-19 digits then blanks
unfoldable pub pan : List ℕ → Bool
pan f = eqb (length f) pan_length && filled digit f

-- the number of digits
abbrev pub pan_digits : List ℕ → ℕ
pan_digits f = leading digit f

-- a doubled digit counts as the sum of its two digits
unfoldable pub doubled : ℕ → ℕ
doubled d = 2 * d / 10 + 2 * d % 10

-- what a digit adds to the Luhn sum: it is doubled where an odd number of digits stands behind it
unfoldable pub addend : ℕ → ℕ → ℕ
addend d behind = cond (eqb (behind % 2) 1) (doubled d) d

-- the Luhn sum of digits, check digit last
unfoldable pub luhn_sum : List ℕ → ℕ
luhn_sum [] = 0
luhn_sum (x ∷ xs) = addend (x - byte "0") (length xs) + luhn_sum xs

-- L5: the Luhn sum of the digits is a multiple of ten
unfoldable pub luhn : List ℕ → Bool
luhn f = eqb (luhn_sum (take (pan_digits f) f) % 10) 0
