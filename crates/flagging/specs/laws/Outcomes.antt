-- Two outcomes of one call are one, for the public function of this crate. Assumes nothing.
use Rattle.std.specs.Prelude.{◌≡◌, List, ℕ}
use Rattle.theory.specs.laws.Outcome.{one_outcome}
use Rattle.flagging.specs.Promises.{JudgePlaced}

pub judge_placed_one : (lines : List ℕ) (width : ℕ) (sender rows held vs r s : List ℕ)
    → JudgePlaced lines width sender rows held vs r → JudgePlaced lines width sender rows held vs s → r ≡ s
judge_placed_one lines width sender rows held vs r s = one_outcome
