-- What each public function of this crate promises. Assumes nothing.
use Rattle.std.specs.Prelude.{◌≡◌, Bool, ℕ}
use Rattle.calendar.specs.declared.Moment.{Moment}
use Rattle.calendar.specs.Calendar.{real_day, real_moment, secs, moment_at}

abbrev pub IsDay : ℕ → ℕ → ℕ → Bool → Type 0
IsDay y m d r = r ≡ real_day y m d

abbrev pub IsMoment : ℕ → ℕ → ℕ → ℕ → ℕ → ℕ → Bool → Type 0
IsMoment y m d h i s r = r ≡ real_moment y m d h i s

abbrev pub Seconds : Moment → ℕ → Type 0
Seconds x r = r ≡ secs x.year x.month x.day x.hour x.minute x.second

abbrev pub MomentAt : ℕ → Moment → Type 0
MomentAt n r = r ≡ moment_at n
