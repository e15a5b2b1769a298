-- The confirmation (HGC): header 110, a line for each rejected line, 130 where the HGV's have 128, footer 64. w is the width of
-- the HGV's lines. Assumes nothing.
use Rattle.std.specs.Prelude.{ℕ, zero, suc, ◌+◌, ◌*◌, List, [], ◌∷◌, ◌++◌}
use Rattle.theory.specs.Text.{bytes}
use Rattle.theory.specs.Keep.{onto}
use Rattle.theory.specs.Pick.{good, bad}
use Rattle.theory.specs.Tally.{tally}
use Rattle.theory.specs.Join.{flat}
use Rattle.texts.specs.Field.{line_end}
use Rattle.numbers.specs.Number.{decimal, zeros}
use Rattle.columns.specs.Columns.{text}
use Rattle.hgv.specs.Layout.{width_of, lines_of}
use Rattle.sizes.specs.Sizes.{footer_length, hgc_header_length, reason_length}
use Rattle.header.specs.Header.{sender, list_sequence}
use Rattle.frames.specs.Frames.{foot}

-- a line of it is longer than the HGV's by its reason
abbrev pub answer_length : ℕ → ℕ
answer_length w = w + reason_length

-- as long as 110 + 130 x rejected + 64
abbrev pub confirmation_length : ℕ → ℕ → ℕ
confirmation_length w rejected = hgc_header_length + rejected * answer_length w + footer_length

-- `00` if none was rejected else `01`
unfoldable pub outcome : ℕ → List ℕ
outcome zero = bytes "00"
outcome (suc n) = bytes "01"

-- the header, text by text: `0`, `000002`, sender, list sequence, reception; h is the HGV
abbrev pub name_texts : List ℕ → List ℕ → List (List ℕ)
name_texts reception h = bytes "0" ∷ bytes "000002" ∷ sender h ∷ list_sequence h ∷ reception ∷ []

-- taken 15, rejected 15, `120001` (for 220001 too), 25 zeros, `00` or `01`, LF
abbrev pub count_texts : ℕ → ℕ → List (List ℕ)
count_texts taken rejected = decimal 15 taken ∷ decimal 15 rejected ∷ bytes "120001" ∷ zeros 25 ∷ outcome rejected ∷ line_end ∷ []

unfoldable pub head : List ℕ → List ℕ → ℕ → ℕ → List ℕ
head reception h taken rejected = flat (name_texts reception h ++ count_texts taken rejected)

-- a rejected line: `1`, its text (positions 2-127) as sent, reason, LF
abbrev pub answer_texts : ℕ → ℕ → List ℕ → List (List ℕ)
answer_texts w reason l = bytes "1" ∷ text w l ∷ decimal 2 reason ∷ line_end ∷ []

unfoldable pub answer : ℕ → ℕ → List ℕ → List ℕ
answer w reason l = flat (answer_texts w reason l)

-- per rejected line, in file order
unfoldable pub answers : ℕ → List ℕ → List (List ℕ) → List (List ℕ)
answers w [] ls = []
answers w (v ∷ vs) [] = []
answers w (v ∷ vs) (l ∷ ls) = onto (bad v) (answer w v l) (answers w vs ls)

-- the confirmation of the HGV h received at `reception`, whose lines have the verdicts vs; the footer is as the HGV's
unfoldable pub confirmation : List ℕ → List ℕ → List ℕ → List ℕ
confirmation reception h vs = head reception h (tally good vs) (tally bad vs) ++ flat (answers (width_of h) vs (lines_of h)) ++ foot
