-- Two outcomes of one call are one, for each public function of this crate. Assumes nothing.
use Rattle.std.specs.Prelude.{◌≡◌, Bool, List, ℕ}
use Rattle.theory.specs.laws.Outcome.{one_outcome}
use Rattle.pans.specs.Promises.{IsPan, IsLuhn}

pub is_pan_one : (f : List ℕ) (r s : Bool) → IsPan f r → IsPan f s → r ≡ s
is_pan_one f r s = one_outcome

pub is_luhn_one : (f : List ℕ) (r s : Bool) → IsLuhn f r → IsLuhn f s → r ≡ s
is_luhn_one f r s = one_outcome
