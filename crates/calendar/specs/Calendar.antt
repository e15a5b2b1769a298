-- The Gregorian calendar in numbers, years 0001 to 9999: which days and clocks are real, the seconds from 00010101000000
-- to a moment, and the moment at a second. y m d h i s are year, month, day, hour, minute, second. Assumes nothing.
use Rattle.std.specs.Prelude.{ℕ, zero, suc, ◌+◌, ◌*◌, ◌-◌, ◌/◌, ◌%◌, Bool, ◌&&◌, ◌||◌, not, cond, leb, eqb}
use Rattle.fields.specs.Field.{between}
use Rattle.calendar.specs.declared.Moment.{Moment}

-- ---- what is real

-- a leap year of the Gregorian calendar
abbrev pub leap : ℕ → Bool
leap y = eqb (y % 4) 0 && not (eqb (y % 100) 0) || eqb (y % 400) 0

-- the days of month m in year y, 0 where m is no month
unfoldable pub days_in : ℕ → ℕ → ℕ
days_in y m =
    cond (between 1 12 m)
    (cond (eqb m 2) (cond (leap y) 29 28) (cond (eqb m 4 || eqb m 6 || eqb m 9 || eqb m 11) 30 31))
    0

-- a Gregorian day of the years 0001 to 9999
abbrev pub real_day : ℕ → ℕ → ℕ → Bool
real_day y m d = between 1 9999 y && between 1 (days_in y m) d

-- hour to 23, minute and second to 59
abbrev pub real_clock : ℕ → ℕ → ℕ → Bool
real_clock h i s = leb h 23 && leb i 59 && leb s 59

-- the six numbers of a real time
abbrev pub real_moment : ℕ → ℕ → ℕ → ℕ → ℕ → ℕ → Bool
real_moment y m d h i s = real_day y m d && real_clock h i s

-- ---- the seconds of a moment

-- f 1 + .. + f n
unfoldable pub sum : (ℕ → ℕ) → ℕ → ℕ
sum f zero = 0
sum f (suc n) = sum f n + f (suc n)

-- the days of the first m months of year y
abbrev pub months_to : ℕ → ℕ → ℕ
months_to y = sum (days_in y)

-- the days of year y
unfoldable pub year_days : ℕ → ℕ
year_days y = months_to y 12

-- the days of the first n years
abbrev pub years_to : ℕ → ℕ
years_to = sum year_days

-- the days from 00010101 to a day
unfoldable pub days : ℕ → ℕ → ℕ → ℕ
days y m d = years_to (y - 1) + (months_to y (m - 1) + (d - 1))

-- the seconds from 00010101000000 to a moment
unfoldable pub secs : ℕ → ℕ → ℕ → ℕ → ℕ → ℕ → ℕ
secs y m d h i s = ((days y m d * 24 + h) * 60 + i) * 60 + s

-- ---- the moment at a second

-- the seconds of a day, and those of the years 0001 to 9999
abbrev pub day_seconds : ℕ
day_seconds = 86400

abbrev pub all_seconds : ℕ
all_seconds = 315537897600

-- how many of the first n parts, f 1, f 2 and so on, are over after d days: the last k with f 1 + .. + f k not above d
unfoldable pub over : (ℕ → ℕ) → ℕ → ℕ → ℕ
over f zero d = 0
over f (suc n) d = cond (leb (sum f (suc n)) d) (suc n) (over f n d)

-- the day after so many days since 00010101, at a second of it
unfoldable pub moment_in : ℕ → ℕ → Moment
moment_in d c =
    let y : ℕ = over year_days 9999 d in
    let r : ℕ = d - years_to y in
    let m : ℕ = over (days_in (y + 1)) 12 r in
    record {
      year = y + 1;
      month = m + 1;
      day = r - months_to (y + 1) m + 1;
      hour = c / 3600;
      minute = c / 60 % 60;
      second = c % 60;
    }

-- the moment n seconds after 00010101000000
unfoldable pub moment_at : ℕ → Moment
moment_at n = moment_in (n / day_seconds) (n % day_seconds)
