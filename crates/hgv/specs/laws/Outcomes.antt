-- Two outcomes of one call are one, for each public function of this crate. Assumes nothing.
use Rattle.std.specs.Prelude.{◌≡◌, Bool, List, ℕ}
use Rattle.std.proofs.Common.{sym, ◌∙◌}
use Rattle.theory.specs.laws.Outcome.{one_outcome}
use Rattle.texts.specs.declared.parts.Parts.{Parts}
use Rattle.hgv.specs.Promises.{Width, LinesIn, HasLength, Body, Lines}

pub width_one : (h : List ℕ) (r s : ℕ) → Width h r → Width h s → r ≡ s
width_one h r s = one_outcome

pub lines_in_one : (h : List ℕ) (r s : ℕ) → LinesIn h r → LinesIn h s → r ≡ s
lines_in_one h r s = one_outcome

pub has_length_one : (h : List ℕ) (r s : Bool) → HasLength h r → HasLength h s → r ≡ s
has_length_one h r s = one_outcome

pub body_one : (h r s : List ℕ) → Body h r → Body h s → r ≡ s
body_one h r s = one_outcome

pub lines_one : (h : List ℕ) (r s : Parts) → Lines h r → Lines h s → (r.block.now ≡ s.block.now) × (r.width ≡ s.width) × (r.count ≡ s.count)
lines_one h r s (b, w, n) (c, v, m) = (b ∙ sym c, w ∙ sym v, n ∙ sym m)
