-- Two outcomes of one call are one: both numbers. Assumes nothing.
use Rattle.std.specs.Prelude.{◌≡◌, List, ℕ}
use Rattle.theory.specs.laws.Outcome.{one_outcome}
use Rattle.service_times.specs.Promises.{GraftspindleSeconds}

pub graftspindle_seconds_one : (t : List ℕ) (n n' k k' : ℕ) → GraftspindleSeconds t n k → GraftspindleSeconds t n' k' → (n ≡ n') × (k ≡ k')
graftspindle_seconds_one t n n' k k' o o' = (one_outcome o.0 o'.0, one_outcome o.1 o'.1)
