-- The HGV's layout: header 128, lines of 128, footer 64; 0 to 8,192 lines. Every definition takes a file of any
-- length. Assumes nothing.
use Rattle.std.specs.Prelude.{ℕ, ◌+◌, ◌-◌, ◌/◌, ◌%◌, Bool, ◌&&◌, List, eqb, leb, length, take, drop}
use Rattle.theory.specs.Parts.{chop}
use Rattle.sizes.specs.Sizes.{header_length, line_length, footer_length, lines_most}

-- what lies between header and footer
abbrev pub body_length : List ℕ → ℕ
body_length h = length h - (header_length + footer_length)

-- the width of its lines
unfoldable pub width_of : List ℕ → ℕ
width_of h = line_length

-- the number of lines, n
unfoldable pub lines_in : List ℕ → ℕ
lines_in h = body_length h / width_of h

-- stop 25 is given where this does not hold: not shorter than 192, 192 + 128n, n not above 8,192
unfoldable pub length_holds : List ℕ → Bool
length_holds h = leb (header_length + footer_length) (length h) && eqb (body_length h % width_of h) 0 && leb (lines_in h) lines_most

-- the body, from byte 129 to the footer
unfoldable pub body : List ℕ → List ℕ
body h = take (body_length h) (drop header_length h)

-- the lines, in file order
unfoldable pub lines_of : List ℕ → List (List ℕ)
lines_of h = chop (width_of h) (lines_in h) (body h)

-- the last 64 bytes
unfoldable pub footer : List ℕ → List ℕ
footer h = drop (length h - footer_length) h
