-- What the provider's functions answer, by a number and the two counts. Assumes nothing.
use Rattle.std.specs.Prelude.{Result, Ok, Err, ℕ}
use Rattle.rules.specs.declared.refusal.Refusal.{Refusal}
use Rattle.rules.specs.Numbers.{refusal_number}
use Rattle.taken.specs.declared.Counts.{Counts}

-- 0 and the two counts, or the number of a stop and zero counts
pub record Counted : Type 0 where
  pub number : ℕ
  pub taken : ℕ
  pub rejected : ℕ

-- how a call tells it
abbrev pub told : Result Counts Refusal → Counted
told (Ok counts) = record { number = 0; taken = counts.taken; rejected = counts.rejected }
told (Err refusal) = record { number = refusal_number refusal; taken = 0; rejected = 0 }
