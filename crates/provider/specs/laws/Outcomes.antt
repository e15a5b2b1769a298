-- Two outcomes of one call are one, for each public function of this crate. Assumes nothing.
use Rattle.std.specs.Prelude.{◌≡◌, Bool, Ok, List, ℕ}
use Rattle.std.proofs.Common.{ap}
use Rattle.theory.specs.laws.Outcome.{one_outcome}
use Rattle.taken.specs.declared.Counts.{Counts}
use Rattle.provider.specs.Counted.{Counted, told}
use Rattle.provider.specs.Answer.{stop_counts}
use Rattle.provider.specs.Promises.{Count, IsReceipt}

pub count_one : (h g marks : List ℕ) (r s : Counted) → Count h g marks r → Count h g marks s → r ≡ s
count_one h g marks r s = one_outcome

-- so two counts of one call are one as well
pub count_told_one : (h g marks : List ℕ) (r s : Counts) → Count h g marks (told (Ok r)) → Count h g marks (told (Ok s)) → r ≡ s
count_told_one h g marks r s o q =
    ap (λ (c : Counted). record { taken = c.taken; rejected = c.rejected }) (count_one h g marks (told (Ok r)) (told (Ok s)) o q)

pub is_receipt_one : (h g marks : List ℕ) (r s : Bool) (v w : List ℕ) → IsReceipt h g marks r v → IsReceipt h g marks s w → (r ≡ s) × (v ≡ w)
is_receipt_one h g marks r s v w o q = (one_outcome o.0 q.0, one_outcome o.1 q.1)

-- ---- a refusal alone, as `told` tells it (`told_refused`)

-- its number, and zero counts
abbrev pub Refused : ℕ → Counted → Type 0
Refused number r = r ≡ stop_counts number

pub refused_one : (number : ℕ) (r s : Counted) → Refused number r → Refused number s → r ≡ s
refused_one number r s = one_outcome
