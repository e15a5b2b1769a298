-- What the time check answers: whether a text is a real time, and its seconds since 00010101000000; and the text of the time
-- at so many seconds. Assumes nothing.
use Rattle.std.specs.Prelude.{ℕ, Bool, true, false, List, [], ◌∷◌, Option, Some, None}
use Rattle.std.specs.Option.{is_some}
use Rattle.theory.specs.Join.{flat}
use Rattle.numbers.specs.Number.{decimal}
use Rattle.calendar.specs.declared.Moment.{Moment}
use Rattle.calendar.specs.Calendar.{secs, moment_at}
use Rattle.times.specs.Time.{year, month, day, hour, minute, second, real_time}

-- the seconds from 00010101000000 to a real time
unfoldable pub seconds : List ℕ → ℕ
seconds t = secs (year t) (month t) (day t) (hour t) (minute t) (second t)

-- a real time has its seconds, and any other text none
unfoldable pub time_where : Bool → ℕ → Option ℕ
time_where true n = Some n
time_where false n = None

unfoldable pub time_of : List ℕ → Option ℕ
time_of t = time_where (real_time t) (seconds t)

abbrev pub is_real : Option ℕ → Bool
is_real t = is_some t

-- ---- and back

-- a moment as YYYYMMDDhhmmss
unfoldable pub text_of : Moment → List ℕ
text_of x =
    flat (decimal 4 x.year ∷ decimal 2 x.month ∷ decimal 2 x.day ∷ decimal 2 x.hour ∷ decimal 2 x.minute ∷ decimal 2 x.second ∷ [])

-- the time n seconds after 00010101000000
unfoldable pub time_at : ℕ → List ℕ
time_at n = text_of (moment_at n)
