-- What a sweep answers, by a number and how many records went. Assumes nothing.
use Rattle.std.specs.Prelude.{Result, Ok, Err, ℕ}
use Rattle.rules.specs.declared.refusal.Refusal.{Refusal}
use Rattle.rules.specs.Numbers.{refusal_number}

-- 0 and how many records went, or the number of a refusal and 0
pub record Swept : Type 0 where
  pub number : ℕ
  pub removed : ℕ

-- how the call tells it
abbrev pub told : Result ℕ Refusal → Swept
told (Ok removed) = record { number = 0; removed = removed }
told (Err refusal) = record { number = refusal_number refusal; removed = 0 }
