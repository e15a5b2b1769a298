-- What each public function of this crate promises. Assumes nothing.
use Rattle.std.specs.Prelude.{◌≡◌, Result, List, ℕ}
use Rattle.rules.specs.declared.reason.Reason.{Reason}
use Rattle.rules.specs.Numbers.{verdict_number}
use Rattle.slots.specs.Slots.{records}
use Rattle.verdicts.specs.Verdict.{file_verdicts}

-- 0 for a line that is taken, else the reason's number
abbrev pub Byte : Result Unit Reason → ℕ → Type 0
Byte verdict r = r ≡ verdict_number verdict

-- a verdict for each line
abbrev pub Judge : List ℕ → List ℕ → List ℕ → List ℕ → List ℕ → Type 0
Judge h rows register _ after = after ≡ file_verdicts rows (records register) h
