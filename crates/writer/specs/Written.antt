-- What the writer answers, by a number and the file's length. Assumes nothing.
use Rattle.std.specs.Prelude.{Result, Ok, Err, ℕ}
use Rattle.rules.specs.declared.refusal.Refusal.{Refusal}
use Rattle.rules.specs.Numbers.{refusal_number}

-- 0 and the file's length, or the number of a refusal
pub record Written : Type 0 where
  pub number : ℕ
  pub length : ℕ

-- how the call tells it
abbrev pub told : Result ℕ Refusal → Written
told (Ok length) = record { number = 0; length = length }
told (Err refusal) = record { number = refusal_number refusal; length = 0 }
