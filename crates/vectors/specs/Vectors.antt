-- What the files of vectors mean: marks for the bytes that no line can hold, a place changed, and texts named by letters.
-- Assumes nothing.
use Rattle.std.specs.Prelude.{Bool, not, cond, ◌&&◌, List, [], ◌∷◌, ℕ, ◌+◌, ◌-◌, ◌*◌, eqb, leb, length, take, get_or}
use Rattle.theory.specs.Parts.{part_at}
use Rattle.texts.specs.Field.{field}
use Rattle.numbers.specs.Number.{number}
use Rattle.writing.specs.Put.{put_field}

-- the most bytes that a text with a letter has; there is room for so many under each of 256 letters
abbrev pub text_most : ℕ
text_most = 168

abbrev pub samples_length : ℕ
samples_length = 256 * text_most

abbrev pub other : ℕ → ℕ → Bool
other end b = not (eqb b end)

-- ~ stands for LF, ^ for CR
unfoldable pub marked : ℕ → ℕ
marked b = cond (eqb b 126) 10 (cond (eqb b 94) 13 b)

-- n bytes from a position on lie within so many
unfoldable pub fits : ℕ → ℕ → ℕ → Bool
fits from n room = leb 1 from && leb (from - 1 + n) room

-- the block with the text from a position on, or as it was where the text does not lie within it
unfoldable pub put_text : ℕ → List ℕ → List ℕ → List ℕ
put_text from t b = cond (fits from (length t) (length b)) (put_field from t b) b

-- the position in three digits, a blank, the text
unfoldable pub changed : List ℕ → List ℕ → List ℕ
changed f b = put_text (number (field 1 3 f)) (field 5 65536 f) b

-- the letter, a blank, the text, of which no byte comes under another letter
unfoldable pub kept : List ℕ → List ℕ → List ℕ
kept f samples = put_text (get_or f 0 0 * text_most + 1) (field 3 (text_most + 2) f) samples

-- the first bytes of the text that a letter names
unfoldable pub sample : ℕ → List ℕ → ℕ → List ℕ
sample width samples letter = take width (part_at text_most letter samples)

-- the texts of the letters one behind the other from a position on
unfoldable pub laid : ℕ → List ℕ → ℕ → List ℕ → List ℕ → List ℕ
laid width samples from [] to = to
laid width samples from (c ∷ cs) to = laid width samples (from + width) cs (put_field from (sample width samples c) to)
