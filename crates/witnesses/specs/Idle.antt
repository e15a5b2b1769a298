-- What a build of the import is, and that it meets the contract: of whatever does, the four idle builds are shut out (`proofs/Idle`).
use Rattle.std.specs.Prelude.{List, ℕ}
use Rattle.imports.specs.Imported.{Imported}
use Rattle.importer.specs.Promises.{Import}
use Rattle.imports.specs.Handed.{Handed}

-- what a build makes of an import: its answer, and both lent blocks after it
pub record Made : Type 0 where
  pub answer : Imported
  pub register : List ℕ
  pub hgc : List ℕ

-- a build of the import
abbrev pub Build : Type 0
Build = Handed → List ℕ → Made

-- it meets the contract, whatever is handed over
abbrev pub Meets : Build → Type 0
Meets build = (f : Handed) (register : List ℕ) → Import f register (build f register).answer (build f register).register (build f register).hgc
