-- Two outcomes of one call are one, for each public function of this crate. Assumes nothing.
use Rattle.std.specs.Prelude.{◌≡◌, List, ℕ}
use Rattle.std.proofs.Common.{sym, ◌∙◌}
use Rattle.theory.specs.laws.Outcome.{one_outcome}
use Rattle.texts.specs.declared.parts.Parts.{Parts}
use Rattle.answers.specs.Promises.{Width, AnswersIn, Answers, Lines, ListSequence, Reception}

pub width_one : (h : List ℕ) (r s : ℕ) → Width h r → Width h s → r ≡ s
width_one h r s = one_outcome

pub answers_in_one : (h g : List ℕ) (r s : ℕ) → AnswersIn h g r → AnswersIn h g s → r ≡ s
answers_in_one h g r s = one_outcome

pub answers_one : (g r s : List ℕ) → Answers g r → Answers g s → r ≡ s
answers_one g r s = one_outcome

pub lines_one : (h g : List ℕ) (r s : Parts) → Lines h g r → Lines h g s → (r.block.now ≡ s.block.now) × (r.width ≡ s.width) × (r.count ≡ s.count)
lines_one h g r s (b, w, n) (c, v, m) = (b ∙ sym c, w ∙ sym v, n ∙ sym m)

pub list_sequence_one : (g r s : List ℕ) → ListSequence g r → ListSequence g s → r ≡ s
list_sequence_one g r s = one_outcome

pub reception_one : (g r s : List ℕ) → Reception g r → Reception g s → r ≡ s
reception_one g r s = one_outcome
