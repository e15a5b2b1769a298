-- Two outcomes of one call are one, for the public function of this crate. Assumes nothing.
use Rattle.std.specs.Prelude.{◌≡◌, Result, List, ℕ}
use Rattle.theory.specs.laws.Outcome.{one_outcome}
use Rattle.rules.specs.declared.refusal.Refusal.{Refusal}
use Rattle.taken.specs.declared.Counts.{Counts}
use Rattle.provider.specs.Counted.{Counted, told}
use Rattle.provider.specs.laws.Told.{told_one}
use Rattle.reading.specs.Promises.{ReadBack}

pub read_back_one : (h g block : List ℕ) (r r' : Counted) (v v' : List ℕ)
    → ReadBack h g block r v → ReadBack h g block r' v' → (r ≡ r') × (v ≡ v')
unfolding ReadBack
read_back_one h g block r r' v v' o o' = (one_outcome o.0 o'.0, one_outcome o.1 o'.1)

-- so two answers of one call are one as well
pub read_back_told_one : (h g block : List ℕ) (r r' : Result Counts Refusal) (v v' : List ℕ)
    → ReadBack h g block (told r) v → ReadBack h g block (told r') v' → (r ≡ r') × (v ≡ v')
read_back_told_one h g block r r' v v' o o' =
    let e = read_back_one h g block (told r) (told r') v v' o o' in
    (told_one r r' e.0, e.1)
