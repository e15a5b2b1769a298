-- Two outcomes of one call are one, for the public function of this crate. Assumes nothing.
use Rattle.std.specs.Prelude.{◌≡◌, List, ℕ}
use Rattle.theory.specs.laws.Outcome.{one_outcome}
use Rattle.judging.specs.Promises.{Judge}

pub judge_one : (h rows register vs vs' found found' : List ℕ)
    → Judge h rows register vs found → Judge h rows register vs' found' → (vs ≡ vs') × (found ≡ found')
judge_one h rows register vs vs' found found' j k = (one_outcome j.0 k.0, one_outcome j.1 k.1)
