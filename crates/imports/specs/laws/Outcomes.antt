-- Two outcomes of one call are one, for each public function of this crate: of the import the answer, the register and the HGC's
-- buffer; and its result, since no two are told alike. Assumes nothing.
use Rattle.std.specs.Prelude.{◌≡◌, List, ℕ, Result}
use Rattle.std.proofs.Common.{sym, ap, ◌∙◌}
use Rattle.theory.specs.laws.Outcome.{one_outcome}
use Rattle.rules.specs.declared.refusal.Refusal.{Refusal}
use Rattle.imports.specs.declared.Confirmed.{Confirmed}
use Rattle.imports.specs.Imported.{Imported, told}
use Rattle.imports.specs.Handed.{Handed}
use Rattle.imports.specs.Import.{refusal}
use Rattle.imports.specs.Promises.{Told, ImportJudged}
use Rattle.imports.specs.laws.Told.{told_alike}

pub told_one : (answer : Result Confirmed Refusal) (n n' : ℕ) (d d' : Confirmed) → Told answer n d → Told answer n' d' → (n ≡ n') × (d ≡ d')
told_one answer n n' d d' o o' =
    let e = o ∙ sym o' in
    (ap (λ (x : Imported). x.number) e, ap (λ (x : Imported). record { taken = x.taken; rejected = x.rejected; length = x.length }) e)

pub import_judged_one : (f : Handed) (register : List ℕ) (r r' : Imported) (b b' g g' : List ℕ) → ImportJudged f register r b g → ImportJudged f register r' b' g'
    → (r ≡ r') × ((b ≡ b') × (g ≡ g'))
unfolding ImportJudged
import_judged_one f register r r' b b' g g' o o' = (one_outcome o.0 o'.0, (one_outcome o.1.0 o'.1.0, one_outcome o.1.1 o'.1.1))

pub import_judged_result : (f : Handed) (register : List ℕ) (r r' : Result Confirmed Refusal) (b b' g g' : List ℕ) → ImportJudged f register (told r) b g
    → ImportJudged f register (told r') b' g' → r ≡ r'
import_judged_result f register r r' b b' g g' o o' = told_alike r r' (import_judged_one f register (told r) (told r') b b' g g' o o').0

-- ---- a refusal alone, as `told` tells it (`told_refused`)

-- its number, and zero counts
abbrev pub Refused : ℕ → Imported → Type 0
Refused number r = r ≡ refusal number

pub refused_one : (number : ℕ) (r s : Imported) → Refused number r → Refused number s → r ≡ s
refused_one number r s = one_outcome
