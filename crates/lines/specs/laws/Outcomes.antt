-- Two outcomes of one call are one, for each public function of this crate. Assumes nothing.
use Rattle.std.specs.Prelude.{◌≡◌, Bool, Result, List, ℕ}
use Rattle.theory.specs.laws.Outcome.{one_outcome}
use Rattle.rules.specs.declared.reason.Reason.{Reason}
use Rattle.rules.specs.Numbers.{verdict_number}
use Rattle.rules.specs.laws.Numbers.{verdict_alone}
use Rattle.lines.specs.Promises.{LineFault, IsRecord}

pub line_fault_one : (l sender rows : List ℕ) (r s : ℕ) → LineFault l sender rows r → LineFault l sender rows s → r ≡ s
line_fault_one l sender rows r s = one_outcome

-- so two verdicts of one line are one as well
pub line_fault_verdict_one : (l sender rows : List ℕ) (r s : Result Unit Reason) → LineFault l sender rows (verdict_number r)
    → LineFault l sender rows (verdict_number s) → r ≡ s
line_fault_verdict_one l sender rows r s o q = verdict_alone r s (line_fault_one l sender rows _ _ o q)

pub is_record_one : (l : List ℕ) (r s : Bool) → IsRecord l r → IsRecord l s → r ≡ s
is_record_one l r s = one_outcome
