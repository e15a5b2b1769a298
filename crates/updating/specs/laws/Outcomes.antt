-- Two outcomes of one call are one, for the public function of this crate. Assumes nothing.
use Rattle.std.specs.Prelude.{◌≡◌, Result, List, ℕ}
use Rattle.theory.specs.laws.Outcome.{one_outcome}
use Rattle.rules.specs.declared.refusal.Refusal.{Refusal}
use Rattle.taken.specs.declared.Counts.{Counts}
use Rattle.provider.specs.Counted.{Counted, told}
use Rattle.provider.specs.laws.Told.{told_one}
use Rattle.updating.specs.Sent.{Sent}
use Rattle.updating.specs.Promises.{Update}

pub update_one : (s : Sent) (copy : List ℕ) (r r' : Counted) (b b' : List ℕ) → Update s copy r b → Update s copy r' b' → (r ≡ r') × (b ≡ b')
unfolding Update
update_one s copy r r' b b' o o' = (one_outcome o.0 o'.0, one_outcome o.1 o'.1)

-- so two answers of one call are one as well
pub update_told_one : (s : Sent) (copy : List ℕ) (r r' : Result Counts Refusal) (b b' : List ℕ) → Update s copy (told r) b → Update s copy (told r') b' → (r ≡ r') × (b ≡ b')
update_told_one s copy r r' b b' o o' =
    let e = update_one s copy (told r) (told r') b b' o o' in
    (told_one r r' e.0, e.1)
