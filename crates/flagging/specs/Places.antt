-- Where the PANs of lines stand among the records held, and among the lines. Assumes nothing.
use Rattle.std.specs.Prelude.{List, ℕ}
use Rattle.theory.specs.Parts.{chop, part_at}
use Rattle.theory.specs.Table.{table_of}
use Rattle.columns.specs.Columns.{pan_of}
use Rattle.slots.specs.Search.{place_of}

-- of each of n lines of this width, where its PAN stands among the records R
unfoldable pub places_of : List (List ℕ) → ℕ → List ℕ → ℕ → List ℕ
places_of R width lines n = table_of (λ i. place_of (pan_of (part_at width i lines)) R) n

-- of each of n lines, the first of them that has its PAN
abbrev pub firsts_of : ℕ → List ℕ → ℕ → List ℕ
firsts_of width lines n = places_of (chop width n lines) width lines n
