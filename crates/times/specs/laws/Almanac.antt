-- The seconds of a time tied to what is known of them elsewhere: days and seconds from an almanac. Assumes nothing.
use Rattle.std.specs.Prelude.{◌≡◌, refl, Bool, true, ◌&&◌, List, [], ◌∷◌, ℕ, ◌+◌, ◌*◌, ◌-◌, ◌/◌, eqb}
use Rattle.std.proofs.Common.{◌∙◌, arith}
use Prim.Native.String.{String}
use Rattle.theory.specs.Text.{bytes}
use Rattle.theory.specs.Every.{all, run}
use Rattle.texts.specs.Field.{field}
use Rattle.fields.specs.Field.{between, digit}
use Rattle.numbers.specs.Number.{number, number_after}
use Rattle.calendar.specs.Calendar.{days_in, sum, year_days, days, secs, day_seconds}
use Rattle.calendar.specs.laws.Years.{days_listed, day_listed, years_are}
use Rattle.times.specs.Time.{year, month, day, hour, minute, second, real_time, real_date}
use Rattle.times.specs.Seconds.{seconds}
use Rattle.times.specs.laws.Date.{date_is}

pub date_listed : (d : List ℕ) → real_date d ≡ run digit 8 d && (between 1 9999 (year d) && between 1 (days_listed (year d) (month d)) (day d))
date_listed d = date_is d ∙ rw (day_listed (year d) (month d) (day d))

-- ---- known days

-- what an almanac says of a day or a moment
pub data Case : Type 0 where
  -- midnight at the start of a day, and the day's Julian day number
  julian_is : String → ℕ → Case
  -- a moment, and its Unix time
  unix_is : String → ℕ → Case
  -- two moments, and the days from the one to the other
  apart_is : String → String → ℕ → Case

-- the Julian day number of 00010101
abbrev first_day : ℕ
first_day = 1721426

-- the moment is real, and this clock has it at this second
unfoldable pub stands : (List ℕ → ℕ) → String → ℕ → Bool
stands clock t n = real_time (bytes t) && eqb (clock (bytes t)) n

-- the clock goes as the almanac says; Unix time begins with 19700101000000
unfoldable pub right : (List ℕ → ℕ) → Case → Bool
right clock (julian_is t n) = stands clock t ((n - first_day) * day_seconds)
right clock (unix_is t n) = stands clock t (clock (bytes "19700101000000") + n)
right clock (apart_is s t n) = stands clock t (clock (bytes s) + n * day_seconds)

unfoldable pub every : (List ℕ → ℕ) → List Case → Bool
every clock [] = true
every clock (c ∷ cs) = right clock c && every clock cs

unfoldable pub almanac : List Case
almanac =
    julian_is "00010101000000" 1721426
    ∷ julian_is "15821015000000" 2299161
    ∷ julian_is "18581117000000" 2400001
    ∷ julian_is "19000101000000" 2415021
    ∷ julian_is "19000301000000" 2415080
    ∷ julian_is "19700101000000" 2440588
    ∷ julian_is "20000101000000" 2451545
    ∷ julian_is "20000301000000" 2451605
    ∷ julian_is "20240229000000" 2460370
    ∷ julian_is "21000301000000" 2488129
    ∷ julian_is "99991231000000" 5373484
    ∷ unix_is "20010909014640" 1000000000
    ∷ unix_is "20090213233130" 1234567890
    ∷ unix_is "20380119031407" 2147483647
    ∷ apart_is "20000101000000" "20240229000000" 8825
    ∷ apart_is "20240101000000" "20240201000000" 31
    ∷ apart_is "20240201000000" "20240301000000" 29
    ∷ []

-- the days from 00010101 to a day, with no sum over the years
unfoldable pub days_by : ℕ → ℕ → ℕ → ℕ
days_by y m d = (y - 1) * 365 + (y - 1) / 4 + (y - 1) / 400 - (y - 1) / 100 + (sum (days_in y) (m - 1) + (d - 1))

unfoldable pub seconds_by : List ℕ → ℕ
seconds_by t = ((days_by (year t) (month t) (day t) * 24 + hour t) * 60 + minute t) * 60 + second t

pub seconds_by_lem : (t : List ℕ) → seconds t ≡ seconds_by t
unfolding seconds secs days days_by seconds_by
seconds_by_lem t =
    let n : ℕ = year t - 1 in
    let e : sum year_days (year t - 1) ≡ n * 365 + n / 4 + n / 400 - n / 100 = omega (arith, years_are n) in
    rw e

every_by : (cs : List Case) → every seconds cs ≡ every seconds_by cs
unfolding every right stands
every_by [] = refl
every_by (julian_is t n ∷ cs) = rw (seconds_by_lem (bytes t), every_by cs)
every_by (unix_is t n ∷ cs) = rw (seconds_by_lem (bytes t), seconds_by_lem (bytes "19700101000000"), every_by cs)
every_by (apart_is s t n ∷ cs) = rw (seconds_by_lem (bytes t), seconds_by_lem (bytes s), every_by cs)

-- the seconds by which times are ordered are those of the almanac
pub almanac_right : every seconds almanac ≡ true
unfolding every right stands almanac real_time run all seconds_by days_by sum days_in field number number_after
almanac_right = every_by almanac ∙ refl
