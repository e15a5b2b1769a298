-- Two outcomes of one call are one, for each public function of this crate. Assumes nothing.
use Rattle.std.specs.Prelude.{◌≡◌, Result, List, ℕ}
use Rattle.theory.specs.laws.Outcome.{one_outcome}
use Rattle.rules.specs.declared.reason.Reason.{Reason}
use Rattle.verdicts.specs.Promises.{Byte, Judge}

pub byte_one : (verdict : Result Unit Reason) (r s : ℕ) → Byte verdict r → Byte verdict s → r ≡ s
byte_one verdict r s = one_outcome

pub judge_one : (h rows register vs r s : List ℕ) → Judge h rows register vs r → Judge h rows register vs s → r ≡ s
judge_one h rows register vs r s = one_outcome
