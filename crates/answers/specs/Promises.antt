-- What each public function of this crate promises. Assumes nothing.
use Rattle.std.specs.Prelude.{◌≡◌, List, ℕ}
use Rattle.texts.specs.declared.parts.Parts.{Parts}
use Rattle.hgv.specs.Layout.{width_of}
use Rattle.hgc.specs.Confirmation.{answer_length}
use Rattle.answers.specs.Layout.{answers_in, behind_head, list_of, reception_of}

-- of a line of the HGC to this HGV
abbrev pub Width : List ℕ → ℕ → Type 0
Width h r = r ≡ answer_length (width_of h)

abbrev pub AnswersIn : List ℕ → List ℕ → ℕ → Type 0
AnswersIn h g r = r ≡ answers_in h g

-- its lines, and what stands behind them
abbrev pub Answers : List ℕ → List ℕ → Type 0
Answers g r = r ≡ behind_head g

-- what stands behind the header, as its lines
abbrev pub Lines : List ℕ → List ℕ → Parts → Type 0
Lines h g r = (r.block.now ≡ behind_head g) × (r.width ≡ answer_length (width_of h)) × (r.count ≡ answers_in h g)

abbrev pub ListSequence : List ℕ → List ℕ → Type 0
ListSequence g r = r ≡ list_of g

abbrev pub Reception : List ℕ → List ℕ → Type 0
Reception g r = r ≡ reception_of g
