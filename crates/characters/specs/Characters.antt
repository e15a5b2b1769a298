-- Hexadecimal digits, and characters with blanks behind them. Assumes nothing.
use Rattle.std.specs.Prelude.{ℕ, Bool, ◌&&◌, ◌||◌, List, leb, ltb, length, drop}
use Rattle.theory.specs.Text.{byte}
use Rattle.theory.specs.Every.{all, leading}
use Rattle.fields.specs.Field.{between, digit, blank}

-- 0 to 9, A to F
abbrev pub hex : ℕ → Bool
hex b = digit b || between (byte "A") (byte "F") b

-- at least one character, k in all, then blanks
unfoldable pub filled_to : ℕ → List ℕ → Bool
filled_to k f = leb k (length f) && ltb 0 k && all blank (drop k f)

-- at least one character that passes, then blanks
unfoldable pub filled : (ℕ → Bool) → List ℕ → Bool
filled p f = filled_to (leading p f) f
