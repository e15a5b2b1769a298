-- What one field of a line, a header or a row may hold. Assumes nothing.
use Rattle.std.specs.Prelude.{ℕ, Bool, ◌&&◌, leb}
use Rattle.theory.specs.Text.{byte}

abbrev pub between : ℕ → ℕ → ℕ → Bool
between lo hi b = leb lo b && leb b hi

-- 0 to 9
abbrev pub digit : ℕ → Bool
digit = between (byte "0") (byte "9")

-- the digit 0, which is a missing number and a filler
abbrev pub zero_digit : ℕ → Bool
zero_digit = between (byte "0") (byte "0")

-- byte 0, of which a free slot is made
abbrev pub zero_byte : ℕ → Bool
zero_byte = between 0 0

abbrev pub blank : ℕ → Bool
blank = between (byte " ") (byte " ")

-- A to Z
abbrev pub capital : ℕ → Bool
capital = between (byte "A") (byte "Z")

-- not below 32: no control character
abbrev pub plain : ℕ → Bool
plain b = leb 32 b
