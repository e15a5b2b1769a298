-- Two outcomes of one call are one, for each public function of this crate. Assumes nothing.
use Rattle.std.specs.Prelude.{◌≡◌, Bool, List, ℕ}
use Rattle.theory.specs.laws.Outcome.{one_outcome}
use Rattle.stamps.specs.Promises.{Reception, IsStamp, WriteStamp}

pub reception_one : (s r r' : List ℕ) → Reception s r → Reception s r' → r ≡ r'
reception_one s r r' = one_outcome

pub is_stamp_one : (s who : List ℕ) (r r' : Bool) → IsStamp s who r → IsStamp s who r' → r ≡ r'
is_stamp_one s who r r' = one_outcome

pub write_stamp_one : (s list reception r r' : List ℕ) → WriteStamp s list reception r → WriteStamp s list reception r' → r ≡ r'
write_stamp_one s list reception r r' = one_outcome
