-- The license plate, its nationality and its separators: rules L6, L7 and the separator's part of L10.
-- Assumes nothing.
use Rattle.std.specs.Prelude.{ℕ, ◌+◌, Bool, ◌&&◌, ◌||◌, List, eqb, leb, length}
use Rattle.theory.specs.Text.{byte}
use Rattle.theory.specs.Every.{run, leading}
use Rattle.texts.specs.Field.{field}
use Rattle.fields.specs.Field.{between, digit, capital, blank}
use Rattle.characters.specs.Characters.{filled}
use Rattle.numbers.specs.Number.{number}

-- A-Z, 0-9, a-z, Ä Ö Ü ä ü (C4 D6 DC E4 FC)
unfoldable pub allowed : ℕ → Bool
allowed b =
    capital b || digit b || between (byte "a") (byte "z") b
    || eqb b 0xc4 || eqb b 0xd6 || eqb b 0xdc || eqb b 0xe4 || eqb b 0xfc

abbrev pub plate_length : ℕ
plate_length = 10

-- L6: 1-10 allowed characters then blanks
unfoldable pub plate : List ℕ → Bool
plate f = eqb (length f) plate_length && filled allowed f

-- the number of characters
abbrev pub plate_characters : List ℕ → ℕ
plate_characters f = leading allowed f

-- L7: two capitals and a blank
unfoldable pub nationality : List ℕ → Bool
nationality f = eqb (length f) 3 && run capital 2 (field 1 2 f) && run blank 1 (field 3 3 f)

-- separator digits p and q, plate of k characters: 00; or q = 0 and 2 <= p <= k; or p >= 2, q >= p + 2 and q <= k + 1
unfoldable pub separated : ℕ → ℕ → ℕ → Bool
separated p q k =
    (eqb p 0 && eqb q 0)
    || (eqb q 0 && leb 2 p && leb p k)
    || (leb 2 p && leb (p + 2) q && leb q (k + 1))

-- two such digits
unfoldable pub separator : List ℕ → ℕ → Bool
separator f k = run digit 2 f && separated (number (field 1 1 f)) (number (field 2 2 f)) k
