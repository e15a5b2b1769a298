-- Two outcomes of one call are one, for the public function of this crate. Assumes nothing.
use Rattle.std.specs.Prelude.{◌≡◌, Result, List, ℕ}
use Rattle.theory.specs.laws.Outcome.{one_outcome}
use Rattle.rules.specs.declared.refusal.Refusal.{Refusal}
use Rattle.rules.specs.Numbers.{answer_number}
use Rattle.rules.specs.laws.Numbers.{answer_alone}
use Rattle.copies.specs.Promises.{CopyStop}

pub copy_stop_one : (mode : ℕ) (copy h : List ℕ) (r s : ℕ) → CopyStop mode copy h r → CopyStop mode copy h s → r ≡ s
copy_stop_one mode copy h r s = one_outcome

-- so two answers of one call are one as well
pub copy_stop_answer_one : (mode : ℕ) (copy h : List ℕ) (r s : Result Unit Refusal)
    → CopyStop mode copy h (answer_number r) → CopyStop mode copy h (answer_number s) → r ≡ s
copy_stop_answer_one mode copy h r s o q = answer_alone r s (copy_stop_one mode copy h _ _ o q)
