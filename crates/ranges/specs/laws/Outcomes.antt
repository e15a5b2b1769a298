-- Two outcomes of one call are one, for each public function of this crate. Assumes nothing.
use Rattle.std.specs.Prelude.{◌≡◌, List, ℕ}
use Rattle.theory.specs.laws.Outcome.{one_outcome}
use Rattle.ranges.specs.Promises.{Plain, Width, Values, PutValue}

pub plain_one : (f : List ℕ) (r s : ℕ) → Plain f r → Plain f s → r ≡ s
plain_one f r s h k = one_outcome h.0 k.0

pub width_one : (f : List ℕ) (r s : ℕ) → Width f r → Width f s → r ≡ s
width_one f r s h k = one_outcome h.0 k.0

pub values_one : (kind width r s : ℕ) → Values kind width r → Values kind width s → r ≡ s
values_one kind width r s = one_outcome

pub put_value_one : (run : List ℕ) (kind v : ℕ) (r s : List ℕ) → PutValue run kind v r → PutValue run kind v s → r ≡ s
put_value_one run kind v r s = one_outcome
