-- Two outcomes of one indexed import are one: the answer, the register and the HGC's buffer; and its result. The index is the one lent block of which
-- nothing is said. Assumes nothing.
use Rattle.std.specs.Prelude.{◌≡◌, List, ℕ, Result}
use Rattle.theory.specs.laws.Outcome.{one_outcome}
use Rattle.rules.specs.declared.refusal.Refusal.{Refusal}
use Rattle.imports.specs.declared.Confirmed.{Confirmed}
use Rattle.imports.specs.Imported.{Imported, told}
use Rattle.imports.specs.Handed.{Handed}
use Rattle.imports.specs.laws.Told.{told_alike}
use Rattle.indexed.specs.Promises.{ImportIndexed}

pub import_indexed_one : (k : ℕ) (f : Handed) (register : List ℕ) (r r' : Imported) (b b' g g' : List ℕ) → ImportIndexed k f register r b g
    → ImportIndexed k f register r' b' g' → (r ≡ r') × ((b ≡ b') × (g ≡ g'))
unfolding ImportIndexed
import_indexed_one k f register r r' b b' g g' o o' = (one_outcome o.0 o'.0, (one_outcome o.1.0 o'.1.0, one_outcome o.1.1 o'.1.1))

pub import_indexed_result : (k : ℕ) (f : Handed) (register : List ℕ) (r r' : Result Confirmed Refusal) (b b' g g' : List ℕ) → ImportIndexed k f register (told r) b g
    → ImportIndexed k f register (told r') b' g' → r ≡ r'
import_indexed_result k f register r r' b b' g g' o o' = told_alike r r' (import_indexed_one k f register (told r) (told r') b b' g g' o o').0
