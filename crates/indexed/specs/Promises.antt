-- What the public function of this crate promises. Assumes nothing.
use Rattle.std.specs.Prelude.{◌≡◌, List, ℕ}
use Rattle.imports.specs.Imported.{Imported}
use Rattle.imports.specs.Handed.{Handed}
use Rattle.imports.specs.Import.{answer_at, register_at, hgc_at}
use Rattle.indexed.specs.Indexed.{indexed_number}

-- of what is handed over beside the register, and an index of k numbers in any state: the answer, the register and the buffer after it.
-- What the index holds then is left open, at a stop too
unfoldable pub ImportIndexed : ℕ → Handed → List ℕ → Imported → List ℕ → List ℕ → Type 0
ImportIndexed k f register r b g =
    (r ≡ answer_at (indexed_number k f register) f register)
    × ((b ≡ register_at (indexed_number k f register) f register)
    × (g ≡ hgc_at (indexed_number k f register) f register))
