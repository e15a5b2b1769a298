-- Two outcomes of one call are one, for each public function of this crate. Assumes nothing.
use Rattle.std.specs.Prelude.{◌≡◌, Bool, List, ℕ}
use Rattle.theory.specs.laws.Outcome.{one_outcome}
use Rattle.header.specs.Promises.{Sender, ListSequence, HasHeader}

pub sender_one : (h r s : List ℕ) → Sender h r → Sender h s → r ≡ s
sender_one h r s = one_outcome

pub list_sequence_one : (h r s : List ℕ) → ListSequence h r → ListSequence h s → r ≡ s
list_sequence_one h r s = one_outcome

pub has_header_one : (h : List ℕ) (r s : Bool) → HasHeader h r → HasHeader h s → r ≡ s
has_header_one h r s = one_outcome
