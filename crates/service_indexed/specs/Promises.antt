-- What the indexed import called from Rust promises: that of `import_indexed`, by the number returned and the three numbers written.
-- Assumes nothing.
use Rattle.std.specs.Prelude.{List, ℕ, length}
use Rattle.imports.specs.Handed.{Handed}
use Rattle.imports.specs.Import.{answered}
use Rattle.indexed.specs.Promises.{ImportIndexed}

abbrev pub GraftspindleImportIndexed : List ℕ → Handed → List ℕ → ℕ → ℕ → ℕ → ℕ → List ℕ → List ℕ → Type 0
GraftspindleImportIndexed index f register number taken rejected size b g = ImportIndexed (length index) f register (answered number taken rejected size) b g
