-- What the import called from Rust promises: that of `import`, by the number returned and the three numbers written; and
-- which revision of the exports this is. Assumes nothing.
use Rattle.std.specs.Prelude.{◌≡◌, List, ℕ}
use Rattle.imports.specs.Handed.{Handed}
use Rattle.imports.specs.Import.{answered}
use Rattle.importer.specs.Promises.{Import}

abbrev pub GraftspindleImport : Handed → List ℕ → ℕ → ℕ → ℕ → ℕ → List ℕ → List ℕ → Type 0
GraftspindleImport f register number taken rejected size b g = Import f register (answered number taken rejected size) b g

abbrev pub revision : ℕ
revision = 2

abbrev pub GraftspindleRevision : ℕ → Type 0
GraftspindleRevision r = r ≡ revision
