-- The HGC's layout, as a provider reads it beside its HGV: its header, the number of its lines, its lines, and the fields
-- that are asked by name. h is the HGV, g the HGC, w the width of the HGV's lines. Every definition takes texts of any
-- length. Assumes nothing.
use Rattle.std.specs.Prelude.{ℕ, ◌+◌, ◌-◌, ◌/◌, List, length, drop}
use Rattle.theory.specs.Parts.{chop}
use Rattle.texts.specs.Field.{field}
use Rattle.hgv.specs.Layout.{width_of}
use Rattle.sizes.specs.Sizes.{footer_length, hgc_header_length}
use Rattle.hgc.specs.Confirmation.{answer_length}

-- what an HGC has beside its lines
abbrev pub bare_length : ℕ
bare_length = hgc_header_length + footer_length

-- the number of its lines, r
unfoldable pub answers_in : List ℕ → List ℕ → ℕ
answers_in h g = (length g - bare_length) / answer_length (width_of h)

-- what stands behind the header: its lines, and the footer
unfoldable pub behind_head : List ℕ → List ℕ
behind_head g = drop hgc_header_length g

unfoldable pub answers_of : List ℕ → List ℕ → List (List ℕ)
answers_of h g = chop (answer_length (width_of h)) (answers_in h g) (behind_head g)

abbrev pub list_of : List ℕ → List ℕ
list_of g = field 14 32 g

abbrev pub reception_of : List ℕ → List ℕ
reception_of g = field 33 46 g

abbrev pub taken_of : List ℕ → List ℕ
taken_of g = field 47 61 g

abbrev pub rejected_of : List ℕ → List ℕ
rejected_of g = field 62 76 g

-- 128-129 where the HGV's lines have 128
abbrev pub reason_of : ℕ → List ℕ → List ℕ
reason_of w a = field w (w + 1) a
