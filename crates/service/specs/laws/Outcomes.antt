-- Two outcomes of one call are one: the numbers, and the lent blocks after the call. Assumes nothing.
use Rattle.std.specs.Prelude.{◌≡◌, List, ℕ}
use Rattle.theory.specs.laws.Outcome.{one_outcome}
use Rattle.imports.specs.Handed.{Handed}
use Rattle.imports.specs.Import.{answered}
use Rattle.importer.specs.laws.Outcomes.{import_one}
use Rattle.service.specs.Promises.{GraftspindleImport, GraftspindleRevision}

module _ (f : Handed) (register : List ℕ) (n n' t t' r r' l l' : ℕ) (b b' g g' : List ℕ) where
  pub graftspindle_import_one : GraftspindleImport f register n t r l b g → GraftspindleImport f register n' t' r' l' b' g'
      → (answered n t r l ≡ answered n' t' r' l') × ((b ≡ b') × (g ≡ g'))
  graftspindle_import_one = import_one f register (answered n t r l) (answered n' t' r' l') b b' g g'

pub graftspindle_revision_one : (r s : ℕ) → GraftspindleRevision r → GraftspindleRevision s → r ≡ s
graftspindle_revision_one r s = one_outcome
