-- Two outcomes of one call are one: the numbers, and the lent blocks after the call, but for the index. Assumes nothing.
use Rattle.std.specs.Prelude.{◌≡◌, List, ℕ, length}
use Rattle.imports.specs.Handed.{Handed}
use Rattle.imports.specs.Import.{answered}
use Rattle.indexed.specs.laws.Outcomes.{import_indexed_one}
use Rattle.service_indexed.specs.Promises.{GraftspindleImportIndexed}

module _ (index : List ℕ) (f : Handed) (register : List ℕ) (n n' t t' r r' l l' : ℕ) (b b' g g' : List ℕ) where
  pub graftspindle_import_indexed_one : GraftspindleImportIndexed index f register n t r l b g → GraftspindleImportIndexed index f register n' t' r' l' b' g'
      → (answered n t r l ≡ answered n' t' r' l') × ((b ≡ b') × (g ≡ g'))
  graftspindle_import_indexed_one = import_indexed_one (length index) f register (answered n t r l) (answered n' t' r' l') b b' g g'
