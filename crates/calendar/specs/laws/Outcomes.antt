-- Two outcomes of one call are one, for each public function of this crate. Assumes nothing.
use Rattle.std.specs.Prelude.{◌≡◌, Bool, ℕ}
use Rattle.theory.specs.laws.Outcome.{one_outcome}
use Rattle.calendar.specs.declared.Moment.{Moment}
use Rattle.calendar.specs.Promises.{IsDay, IsMoment, Seconds, MomentAt}

pub is_day_one : (y m d : ℕ) (r s : Bool) → IsDay y m d r → IsDay y m d s → r ≡ s
is_day_one y m d r s = one_outcome

pub is_moment_one : (y m d h i s : ℕ) (r r' : Bool) → IsMoment y m d h i s r → IsMoment y m d h i s r' → r ≡ r'
is_moment_one y m d h i s r r' = one_outcome

pub seconds_one : (x : Moment) (r s : ℕ) → Seconds x r → Seconds x s → r ≡ s
seconds_one x r s = one_outcome

pub moment_at_one : (n : ℕ) (r s : Moment) → MomentAt n r → MomentAt n s → r ≡ s
moment_at_one n r s = one_outcome
