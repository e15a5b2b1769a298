-- "A *real time* is YYYYMMDDhhmmss, year 0001-9999, Gregorian days, hour to 23, minute and second to 59. A *real
-- date* is the first eight digits of one." A text of another length is not real. Assumes nothing.
use Rattle.std.specs.Prelude.{ℕ, Bool, ◌&&◌, List, ◌++◌}
use Rattle.theory.specs.Text.{bytes}
use Rattle.theory.specs.Every.{run}
use Rattle.sizes.specs.Sizes.{time_length}
use Rattle.texts.specs.Field.{field}
use Rattle.fields.specs.Field.{digit}
use Rattle.numbers.specs.Number.{number}
use Rattle.calendar.specs.Calendar.{real_moment}

-- YYYY
abbrev pub year : List ℕ → ℕ
year t = number (field 1 4 t)

-- MM
abbrev pub month : List ℕ → ℕ
month t = number (field 5 6 t)

-- DD
abbrev pub day : List ℕ → ℕ
day t = number (field 7 8 t)

-- hh
abbrev pub hour : List ℕ → ℕ
hour t = number (field 9 10 t)

-- mm
abbrev pub minute : List ℕ → ℕ
minute t = number (field 11 12 t)

-- ss
abbrev pub second : List ℕ → ℕ
second t = number (field 13 14 t)

-- 14 digits that write the six numbers of one
unfoldable pub real_time : List ℕ → Bool
real_time t = run digit time_length t && real_moment (year t) (month t) (day t) (hour t) (minute t) (second t)

-- eight digits that midnight makes a real time
unfoldable pub real_date : List ℕ → Bool
real_date d = real_time (d ++ bytes "000000")
