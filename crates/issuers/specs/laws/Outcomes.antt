-- Two outcomes of one call are one, for each public function of this crate. Assumes nothing.
use Rattle.std.specs.Prelude.{◌≡◌, Bool, List, ℕ}
use Rattle.theory.specs.laws.Outcome.{one_outcome}
use Rattle.issuers.specs.declared.Issued.{Issued}
use Rattle.issuers.specs.Promises.{AreRows, IsKnown, IssuedTo}

pub are_rows_one : (b : List ℕ) (r s : Bool) → AreRows b r → AreRows b s → r ≡ s
are_rows_one b r s = one_outcome

pub is_known_one : (b sender : List ℕ) (r s : Bool) → IsKnown b sender r → IsKnown b sender s → r ≡ s
is_known_one b sender r s = one_outcome

pub issued_to_one : (b sender pan : List ℕ) (r s : Issued) → IssuedTo b sender pan r → IssuedTo b sender pan s → r ≡ s
issued_to_one b sender pan r s = one_outcome
