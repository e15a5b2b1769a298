-- Two outcomes of one call are one, for each public function of this crate. Assumes nothing.
use Rattle.std.specs.Prelude.{◌≡◌, Bool, List, ℕ}
use Rattle.theory.specs.laws.Outcome.{one_outcome}
use Rattle.claims.specs.Promises.{HasVersion, IsIncrementalOnly, HasReceiver, HasCount}

pub has_version_one : (h : List ℕ) (r s : Bool) → HasVersion h r → HasVersion h s → r ≡ s
has_version_one h r s = one_outcome

pub is_incremental_only_one : (h : List ℕ) (r s : Bool) → IsIncrementalOnly h r → IsIncrementalOnly h s → r ≡ s
is_incremental_only_one h r s = one_outcome

pub has_receiver_one : (h : List ℕ) (r s : Bool) → HasReceiver h r → HasReceiver h s → r ≡ s
has_receiver_one h r s = one_outcome

pub has_count_one : (h : List ℕ) (r s : Bool) → HasCount h r → HasCount h s → r ≡ s
has_count_one h r s = one_outcome
