-- The texts of lines that stand one behind the other. Assumes nothing.
use Rattle.std.specs.Prelude.{ℕ, List, map}
use Rattle.theory.specs.Parts.{chop}
use Rattle.texts.specs.declared.parts.Parts.{Parts}
use Rattle.columns.specs.Columns.{text}

-- those of the first n lines of b, each v bytes long; w is the width of the HGV's lines
unfoldable pub texts_in : ℕ → ℕ → ℕ → List ℕ → List (List ℕ)
texts_in w v n b = map (text w) (chop v n b)

-- of parts: all of them, and the texts of lines that they are
abbrev pub all_of : Parts → List (List ℕ)
all_of parts = chop parts.width parts.count parts.block.now

abbrev pub part_texts : ℕ → Parts → List (List ℕ)
part_texts w parts = texts_in w parts.width parts.count parts.block.now
