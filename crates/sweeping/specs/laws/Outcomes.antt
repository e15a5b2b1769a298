-- Two outcomes of one sweep are one: the answer, and the register. Assumes nothing.
use Rattle.std.specs.Prelude.{◌≡◌, Result, Ok, Err, List, ℕ}
use Rattle.std.proofs.Common.{ap, sym}
use Rattle.theory.specs.laws.Outcome.{one_outcome}
use Rattle.rules.specs.declared.refusal.Refusal.{Refusal}
use Rattle.rules.specs.laws.Numbers.{refusal_some, refusal_alone}
use Rattle.sweeping.specs.Swept.{Swept, told}
use Rattle.sweeping.specs.Promises.{Sweep}

pub sweep_one : (t register : List ℕ) (r r' : Swept) (b b' : List ℕ) → Sweep t register r b → Sweep t register r' b' → (r ≡ r') × (b ≡ b')
unfolding Sweep
sweep_one t register r r' b b' o o' = (one_outcome o.0 o'.0, one_outcome o.1 o'.1)

-- what is told says which answer it was
pub told_one : (r s : Result ℕ Refusal) → told r ≡ told s → r ≡ s
told_one (Ok k) (Ok l) e = ap Ok (ap (λ (t : Swept). t.removed) e)
told_one (Ok k) (Err b) e = absurd (refusal_some b (sym (ap (λ (t : Swept). t.number) e)))
told_one (Err a) (Ok l) e = absurd (refusal_some a (ap (λ (t : Swept). t.number) e))
told_one (Err a) (Err b) e = ap Err (refusal_alone a b (ap (λ (t : Swept). t.number) e))

-- so two answers of one sweep are one as well
pub sweep_told_one : (t register : List ℕ) (r r' : Result ℕ Refusal) (b b' : List ℕ) → Sweep t register (told r) b → Sweep t register (told r') b' → (r ≡ r') × (b ≡ b')
sweep_told_one t register r r' b b' o o' =
    let e = sweep_one t register (told r) (told r') b b' o o' in
    (told_one r r' e.0, e.1)
