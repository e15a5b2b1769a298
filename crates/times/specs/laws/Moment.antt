-- What a real time gives: 14 digits, and six numbers within their bounds. Assumes nothing.
use Rattle.std.specs.Prelude.{◌≡◌, Bool, true, ◌&&◌, List, ℕ, eqb, length}
use borrow.Author.Tests.{eqb-true}
use Rattle.theory.specs.laws.Truth.{and_left, and_right}
use Rattle.theory.specs.Every.{all, run}
use Rattle.sizes.specs.Sizes.{time_length}
use Rattle.fields.specs.Field.{digit}
use Rattle.calendar.specs.declared.Moment.{Moment}
use Rattle.calendar.specs.Calendar.{real_moment, secs}
use Rattle.calendar.specs.Bounds.{Bounds}
use Rattle.calendar.specs.laws.Bounds.{bounds}
use Rattle.times.specs.Time.{year, month, day, hour, minute, second, real_time}
use Rattle.times.specs.Seconds.{seconds}

module _ (t : List ℕ) (real : real_time t ≡ true) where
  real_digits : run digit time_length t ≡ true
  unfolding real_time
  real_digits = and_left (run digit time_length t) (real_moment (year t) (month t) (day t) (hour t) (minute t) (second t)) real

  pub real_length : length t ≡ time_length
  unfolding run
  real_length = eqb-true (length t) time_length (and_left (eqb (length t) time_length) (all digit t) real_digits)

  pub real_all : all digit t ≡ true
  unfolding run
  real_all = and_right (eqb (length t) time_length) (all digit t) real_digits

  pub real_numbers : real_moment (year t) (month t) (day t) (hour t) (minute t) (second t) ≡ true
  unfolding real_time
  real_numbers = and_right (run digit time_length t) (real_moment (year t) (month t) (day t) (hour t) (minute t) (second t)) real

  pub real_moment_lem : Bounds (year t) (month t) (day t) (hour t) (minute t) (second t)
  real_moment_lem = bounds (year t) (month t) (day t) (hour t) (minute t) (second t) real_numbers

-- the moment whose digits stand in a text
abbrev pub moment_of : List ℕ → Moment
moment_of t = record { year = year t; month = month t; day = day t; hour = hour t; minute = minute t; second = second t }

-- as the code asks it, of the six numbers that it read
module _ (t : List ℕ) (y m d h i s : ℕ) (ey : y ≡ year t) (em : m ≡ month t) (ed : d ≡ day t) (eh : h ≡ hour t) (ei : i ≡ minute t) (es : s ≡ second t) where
  pub real_asked : (a b : Bool) → a ≡ run digit time_length t → b ≡ real_moment y m d h i s → a && b ≡ real_time t
  unfolding real_time
  real_asked a b ea eb = rw (ea, eb, ey, em, ed, eh, ei, es)

  pub bounds_asked : real_time t ≡ true → Bounds y m d h i s
  bounds_asked r = rw (ey, em, ed, eh, ei, es) (real_moment_lem t r)

  pub seconds_asked : secs y m d h i s ≡ seconds t
  unfolding seconds
  seconds_asked = rw (ey, em, ed, eh, ei, es)
