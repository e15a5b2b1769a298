-- Two outcomes of one call are one, for the public function of this crate. Assumes nothing.
use Rattle.std.specs.Prelude.{◌≡◌, Bool, List, ℕ}
use Rattle.theory.specs.laws.Outcome.{one_outcome}
use Rattle.sequences.specs.Promises.{IsSequence}

pub is_sequence_one : (f from : List ℕ) (r s : Bool) → IsSequence f from r → IsSequence f from s → r ≡ s
is_sequence_one f from r s = one_outcome
