-- What each public function of this crate promises. Assumes nothing.
use Rattle.std.specs.Prelude.{◌≡◌, Bool, cond, List, map, Result, ℕ, ◌≤◌, length}
use Rattle.theory.specs.Every.{leading}
use Rattle.rules.specs.declared.refusal.Refusal.{Refusal}
use Rattle.rules.specs.Numbers.{answer_number}
use Rattle.vectors.specs.declared.answer.Answer.{Answer}
use Rattle.vectors.specs.declared.answer.Answer.TheVariants.{No, Yes, Number}
use Rattle.vectors.specs.Vectors.{other, marked, changed, kept, laid}

-- how many bytes stand in front of the first `end`
abbrev pub Before : List ℕ → ℕ → ℕ → Type 0
Before f end r =
    (r ≡ leading (other end) f)
    × (r ≤ length f)

-- the line after it
abbrev pub Mark : List ℕ → List ℕ → Type 0
Mark line after = after ≡ map marked line

-- the block after it
abbrev pub Change : List ℕ → List ℕ → List ℕ → Type 0
Change to f after = after ≡ changed f to

-- the text under its letter
abbrev pub Keep : List ℕ → List ℕ → List ℕ → Type 0
Keep samples f after = after ≡ kept f samples

-- the texts that the letters name, one behind the other
abbrev pub Lay : List ℕ → ℕ → ℕ → List ℕ → List ℕ → List ℕ → Type 0
Lay to from width samples letters after = after ≡ laid width samples from letters to

-- the number of a call: 0, or its refusal's
abbrev pub AnswerOfCall : {T : Type 0} → Result T Refusal → Answer → Type 0
AnswerOfCall outcome r = r ≡ Number (answer_number outcome)

abbrev pub AnswerOfBool : Bool → Answer → Type 0
AnswerOfBool holds r = r ≡ cond holds Yes No

abbrev pub AnswerOfNumber : ℕ → Answer → Type 0
AnswerOfNumber number r = r ≡ Number number
