-- Two outcomes of one call are one, for each public function of this crate. Assumes nothing.
use Rattle.std.specs.Prelude.{◌≡◌, Bool, List, ℕ, Option}
use Rattle.theory.specs.laws.Outcome.{one_outcome}
use Rattle.times.specs.Promises.{TimeOf, IsRealTime, IsRealDate, IsEarlier, WriteTime}

pub time_of_one : (t : List ℕ) (r s : Option ℕ) → TimeOf t r → TimeOf t s → r ≡ s
time_of_one t r s = one_outcome

pub is_real_time_one : (t : List ℕ) (r s : Bool) → IsRealTime t r → IsRealTime t s → r ≡ s
is_real_time_one t r s = one_outcome

pub is_real_date_one : (d : List ℕ) (r s : Bool) → IsRealDate d r → IsRealDate d s → r ≡ s
is_real_date_one d r s = one_outcome

pub is_earlier_one : (a b : List ℕ) (r s : Bool) → IsEarlier a b r → IsEarlier a b s → r ≡ s
is_earlier_one a b r s = one_outcome

pub write_time_one : (to : List ℕ) (n : ℕ) (b b' : List ℕ) → WriteTime to n b → WriteTime to n b' → b ≡ b'
write_time_one to n b b' = one_outcome
