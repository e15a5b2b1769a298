-- Two outcomes of one call are one. Assumes nothing.
use Rattle.std.specs.Prelude.{◌≡◌, Bool, List, ℕ}
use Rattle.theory.specs.laws.Outcome.{one_outcome}
use Rattle.activity.specs.Promises.{IsActive}

pub is_active_one : (t r : List ℕ) (a b : Bool) → IsActive t r a → IsActive t r b → a ≡ b
is_active_one t r a b = one_outcome
