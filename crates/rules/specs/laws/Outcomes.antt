-- Two outcomes of one call are one, for each public function of this crate. Assumes nothing.
use Rattle.std.specs.Prelude.{◌≡◌, Bool, Result, Ok, Err, ℕ}
use Rattle.std.proofs.Common.{ap, sym, ◌∙◌}
use Rattle.theory.specs.laws.Outcome.{one_outcome}
use Rattle.rules.specs.declared.reason.Reason.{Reason}
use Rattle.rules.specs.declared.reason.UnknownReason.{UnknownReason}
use Rattle.rules.specs.declared.refusal.Refusal.{Refusal}
use Rattle.rules.specs.Promises.{Require, ReasonNumber, RefusalNumber, ReasonOf}
use Rattle.rules.specs.laws.Numbers.{reason_alone}

pub require_one : {E : Type 0} (holds : Bool) (refusal : E) (r s : Result Unit E) → Require holds refusal r → Require holds refusal s → r ≡ s
require_one holds refusal r s = one_outcome

pub reason_number_one : (reason : Reason) (r s : ℕ) → ReasonNumber reason r → ReasonNumber reason s → r ≡ s
reason_number_one reason r s = one_outcome

pub refusal_number_one : (refusal : Refusal) (r s : ℕ) → RefusalNumber refusal r → RefusalNumber refusal s → r ≡ s
refusal_number_one refusal r s = one_outcome

pub reason_of_one : (number : ℕ) (r s : Result Reason UnknownReason) → ReasonOf number r → ReasonOf number s → r ≡ s
reason_of_one number (Ok a) (Ok b) h k = ap Ok (reason_alone a b (h ∙ sym k))
reason_of_one number (Ok a) (Err e) h k = absurd (k.1 a h)
reason_of_one number (Err d) (Ok b) h k = absurd (h.1 b k)
reason_of_one number (Err d) (Err e) h k = ap (λ n. Err (record { 0 = n })) (h.0 ∙ sym k.0)
