-- What the public function of this crate promises. Assumes nothing.
use Rattle.std.specs.Prelude.{◌≡◌, List, ℕ, length}
use Rattle.theory.specs.Parts.{chop}
use Rattle.slots.specs.Slots.{slots_of}
use Rattle.verdicts.specs.Verdict.{verdicts_of}

-- a verdict for each line, by the places of the PANs
abbrev pub JudgePlaced : List ℕ → ℕ → List ℕ → List ℕ → List ℕ → List ℕ → List ℕ → Type 0
JudgePlaced lines width sender rows held verdicts after = after ≡ verdicts_of rows sender (slots_of held) (chop width (length verdicts) lines)
