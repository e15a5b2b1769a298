-- Two outcomes of one call are one, for each public function of this crate. Assumes nothing.
use Rattle.std.specs.Prelude.{◌≡◌, List, ℕ}
use Rattle.theory.specs.laws.Outcome.{one_outcome}
use Rattle.records.specs.Promises.{WriteRecord, PutRecord}

pub write_record_one : (slot line stamp r s : List ℕ)
    → WriteRecord slot line stamp r → WriteRecord slot line stamp s → r ≡ s
write_record_one slot line stamp r s = one_outcome

pub put_record_one : (register : List ℕ) (i : ℕ) (line stamp r s : List ℕ)
    → PutRecord register i line stamp r → PutRecord register i line stamp s → r ≡ s
put_record_one register i line stamp r s = one_outcome
