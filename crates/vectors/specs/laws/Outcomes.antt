-- Two outcomes of one call are one, for each public function of this crate. Assumes nothing.
use Rattle.std.specs.Prelude.{◌≡◌, Bool, List, Result, ℕ}
use Rattle.theory.specs.laws.Outcome.{one_outcome}
use Rattle.rules.specs.declared.refusal.Refusal.{Refusal}
use Rattle.vectors.specs.declared.answer.Answer.{Answer}
use Rattle.vectors.specs.Promises.{Before, Mark, Change, Keep, Lay, AnswerOfCall, AnswerOfBool, AnswerOfNumber}

pub before_one : (f : List ℕ) (end r s : ℕ) → Before f end r → Before f end s → r ≡ s
before_one f end r s h k = one_outcome h.0 k.0

pub mark_one : (line r s : List ℕ) → Mark line r → Mark line s → r ≡ s
mark_one line r s = one_outcome

pub change_one : (to f r s : List ℕ) → Change to f r → Change to f s → r ≡ s
change_one to f r s = one_outcome

pub keep_one : (samples f r s : List ℕ) → Keep samples f r → Keep samples f s → r ≡ s
keep_one samples f r s = one_outcome

pub lay_one : (to : List ℕ) (from width : ℕ) (samples letters r s : List ℕ)
    → Lay to from width samples letters r → Lay to from width samples letters s → r ≡ s
lay_one to from width samples letters r s = one_outcome

pub answer_of_call_one : {T : Type 0} (outcome : Result T Refusal) (r s : Answer) → AnswerOfCall outcome r → AnswerOfCall outcome s → r ≡ s
answer_of_call_one outcome r s = one_outcome

pub answer_of_bool_one : (holds : Bool) (r s : Answer) → AnswerOfBool holds r → AnswerOfBool holds s → r ≡ s
answer_of_bool_one holds r s = one_outcome

pub answer_of_number_one : (number : ℕ) (r s : Answer) → AnswerOfNumber number r → AnswerOfNumber number s → r ≡ s
answer_of_number_one number r s = one_outcome
