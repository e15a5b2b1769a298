-- What each public function of this crate promises. Assumes nothing.
use Rattle.std.specs.Prelude.{◌≡◌, ◌≢◌, Bool, Result, MatchResult, ℕ}
use Rattle.rules.specs.declared.reason.Reason.{Reason}
use Rattle.rules.specs.declared.reason.UnknownReason.{UnknownReason}
use Rattle.rules.specs.declared.refusal.Refusal.{Refusal}
use Rattle.rules.specs.Numbers.{reason_number, refusal_number, required}

abbrev pub Require : {E : Type 0} → Bool → E → Result Unit E → Type 0
Require holds refusal r = r ≡ required holds refusal

abbrev pub ReasonNumber : Reason → ℕ → Type 0
ReasonNumber reason r = r ≡ reason_number reason

abbrev pub RefusalNumber : Refusal → ℕ → Type 0
RefusalNumber refusal r = r ≡ refusal_number refusal

-- the reason with this number, or the number itself where no reason has it
abbrev pub ReasonOf : ℕ → Result Reason UnknownReason → Type 0
ReasonOf number r = MatchResult r (λ reason. reason_number reason ≡ number) (λ e. (e.0 ≡ number) × ((reason : Reason) → reason_number reason ≢ number))
