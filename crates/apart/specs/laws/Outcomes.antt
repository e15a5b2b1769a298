-- Two outcomes of one call are one, for the public function of this crate. Assumes nothing.
use Rattle.std.specs.Prelude.{◌≡◌, Bool, List, ℕ}
use Rattle.theory.specs.laws.Outcome.{one_outcome}
use Rattle.keys.specs.declared.Keys.{Keys}
use Rattle.apart.specs.Promises.{AllApart}

pub all_apart_one : (b : List ℕ) (keys : Keys) (n : ℕ) (r s : Bool) → AllApart b keys n r → AllApart b keys n s → r ≡ s
all_apart_one b keys n r s = one_outcome
