-- Two outcomes of one call are one, for each public function of this crate. Assumes nothing.
use Rattle.std.specs.Prelude.{◌≡◌, Bool, List, ℕ}
use Rattle.theory.specs.laws.Outcome.{one_outcome}
use Rattle.keys.specs.declared.Keys.{Keys}
use Rattle.ordering.specs.Promises.{AreApart, AreFirsts, Covers}

pub are_apart_one : (b : List ℕ) (keys : Keys) (marks : List ℕ) (r s : Bool) → AreApart b keys marks r → AreApart b keys marks s → r ≡ s
are_apart_one b keys marks r s = one_outcome

pub are_firsts_one : (b : List ℕ) (keys : Keys) (marks : List ℕ) (r s : Bool) → AreFirsts b keys marks r → AreFirsts b keys marks s → r ≡ s
are_firsts_one b keys marks r s = one_outcome

pub covers_one : (marks : List ℕ) (all : Bool) (order ranks : List ℕ) (m : ℕ) (r s : Bool)
    → Covers marks all order ranks m r → Covers marks all order ranks m s → r ≡ s
covers_one marks all order ranks m r s = one_outcome
