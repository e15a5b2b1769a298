-- Two outcomes of one call are one, for the public function of this crate: the answer, the register and the HGC's buffer; and its
-- result. Assumes nothing.
use Rattle.std.specs.Prelude.{◌≡◌, List, ℕ, Result}
use Rattle.rules.specs.declared.refusal.Refusal.{Refusal}
use Rattle.imports.specs.declared.Confirmed.{Confirmed}
use Rattle.imports.specs.Imported.{Imported, told}
use Rattle.imports.specs.Handed.{Handed}
use Rattle.imports.specs.laws.Outcomes.{import_judged_one, import_judged_result}
use Rattle.importer.specs.Promises.{Import}

pub import_one : (f : Handed) (register : List ℕ) (r r' : Imported) (b b' g g' : List ℕ) → Import f register r b g → Import f register r' b' g'
    → (r ≡ r') × ((b ≡ b') × (g ≡ g'))
import_one = import_judged_one

pub import_result : (f : Handed) (register : List ℕ) (r r' : Result Confirmed Refusal) (b b' g g' : List ℕ) → Import f register (told r) b g
    → Import f register (told r') b' g' → r ≡ r'
import_result = import_judged_result
