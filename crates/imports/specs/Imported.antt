-- What an import answers, in numbers, and which answer each outcome of the call is. Assumes nothing.
use Rattle.std.specs.Prelude.{Result, Ok, Err, ℕ}
use Rattle.rules.specs.declared.refusal.Refusal.{Refusal}
use Rattle.rules.specs.Numbers.{refusal_number}
use Rattle.imports.specs.declared.Confirmed.{Confirmed}

-- 0 and the three numbers, or the number of a stop and zero counts
pub record Imported : Type 0 where
  pub number : ℕ
  pub taken : ℕ
  pub rejected : ℕ
  pub length : ℕ

-- an accepted import answers 0 and its three numbers; a refused one its stop's number, and counts nothing
abbrev pub told : Result Confirmed Refusal → Imported
told (Ok done) = record { number = 0; taken = done.taken; rejected = done.rejected; length = done.length }
told (Err stop) = record { number = refusal_number stop; taken = 0; rejected = 0; length = 0 }
