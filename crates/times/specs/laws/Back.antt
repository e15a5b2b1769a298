-- The text of the time at a second is a real time, and has that second; so seconds and texts go there and back. Assumes
-- nothing.
use Rattle.std.specs.Prelude.{◌≡◌, Bool, true, false, List, [], ◌∷◌, ◌++◌, ℕ, suc, ◌+◌, ◌*◌, ◌/◌, ◌%◌, ◌≤◌, ◌<◌, Option, Some, None}
use Rattle.std.proofs.Math.Path.{refl, ap}
use Rattle.std.proofs.Common.{sym, ◌∙◌, append_assoc, append-nil, arith}
use Rattle.theory.specs.Text.{byte}
use Rattle.theory.specs.laws.Truth.{and_both}
use Rattle.theory.specs.Every.{run}
use Rattle.theory.specs.Join.{flat}
use Rattle.sizes.specs.Sizes.{time_length}
use Rattle.texts.specs.laws.Pieces.{Wide, no_more, then, piece}
use Rattle.fields.specs.Field.{digit}
use Rattle.numbers.specs.Number.{number, decimal}
use Rattle.numbers.specs.laws.Number.{length_decimal, decimal_digits, number_decimal, number_2}
use Rattle.calendar.specs.declared.Moment.{Moment}
use Rattle.calendar.specs.Calendar.{real_moment, secs, all_seconds, moment_at}
use Rattle.calendar.specs.laws.Bounds.{days_most, bounds_real}
use Rattle.calendar.specs.laws.Order.{stamp}
use Rattle.calendar.specs.laws.Back.{Within, at_bounds, at_secs, secs_most}
use Rattle.times.specs.Time.{year, month, day, hour, minute, second, real_time}
use Rattle.times.specs.Seconds.{seconds, time_where, time_of, is_real, text_of, time_at}
use Rattle.times.specs.laws.Moment.{real_moment_lem}
use Rattle.times.specs.laws.Order.{seconds_one}

-- ---- the text of a moment is its digits as one number

-- two digits behind others
decimal_behind : (k v w : ℕ) → w ≤ 99 → decimal (suc (suc k)) (v * 100 + w) ≡ decimal k v ++ decimal 2 w
unfolding decimal
decimal_behind k v w h =
    let a : (v * 100 + w) / 10 / 10 ≡ v = omega arith in
    let b : (v * 100 + w) / 10 % 10 ≡ w / 10 % 10 = omega arith in
    let c : (v * 100 + w) % 10 ≡ w % 10 = omega arith in
    rw (a, b, c) (append_assoc (decimal k v) ((byte "0" + w / 10 % 10) ∷ []) ((byte "0" + w % 10) ∷ []))

-- no number has more digits than its place in the text
pub record Fits (x : Moment) : Type 0 where
  pub year : x.year ≤ 9999
  pub month : x.month ≤ 99
  pub day : x.day ≤ 99
  pub hour : x.hour ≤ 99
  pub minute : x.minute ≤ 99
  pub second : x.second ≤ 99

module _ (x : Moment) (b : Within x) where
  pub real_fits : Fits x
  real_fits =
      record {
        year = b.year.1;
        month = omega (arith, b.month);
        day = omega (arith, b.day, days_most x.year x.month);
        hour = omega (arith, b.hour);
        minute = omega (arith, b.minute);
        second = omega (arith, b.second);
      }

  pub text_digits : decimal time_length (stamp x.year x.month x.day x.hour x.minute x.second) ≡ text_of x
  unfolding text_of flat
  text_digits =
      rw (
        decimal_behind 12 _ x.second real_fits.second,
        decimal_behind 10 _ x.minute real_fits.minute,
        decimal_behind 8 _ x.hour real_fits.hour,
        decimal_behind 6 _ x.day real_fits.day,
        decimal_behind 4 x.year x.month real_fits.month,
      )
      (simp (append_assoc, append-nil))

  -- ---- and it is read again

  text_wide : Wide (4 ∷ 2 ∷ 2 ∷ 2 ∷ 2 ∷ 2 ∷ [])
      (decimal 4 x.year ∷ decimal 2 x.month ∷ decimal 2 x.day ∷ decimal 2 x.hour ∷ decimal 2 x.minute ∷ decimal 2 x.second ∷ [])
  text_wide =
      then (length_decimal 4 _) (then (length_decimal 2 _) (then (length_decimal 2 _) (then (length_decimal 2 _) (then (length_decimal 2 _) (then (length_decimal 2 _) no_more)))))

  text_year : year (text_of x) ≡ x.year
  unfolding text_of
  text_year = ap number (piece 0 1 4 text_wide (omega arith) refl refl) ∙ number_decimal 4 x.year (omega (arith, b.year))

  text_month : month (text_of x) ≡ x.month
  unfolding text_of
  text_month = ap number (piece 1 5 6 text_wide (omega arith) refl refl) ∙ number_2 x.month real_fits.month

  text_day : day (text_of x) ≡ x.day
  unfolding text_of
  text_day = ap number (piece 2 7 8 text_wide (omega arith) refl refl) ∙ number_2 x.day real_fits.day

  text_hour : hour (text_of x) ≡ x.hour
  unfolding text_of
  text_hour = ap number (piece 3 9 10 text_wide (omega arith) refl refl) ∙ number_2 x.hour real_fits.hour

  text_minute : minute (text_of x) ≡ x.minute
  unfolding text_of
  text_minute = ap number (piece 4 11 12 text_wide (omega arith) refl refl) ∙ number_2 x.minute real_fits.minute

  text_second : second (text_of x) ≡ x.second
  unfolding text_of
  text_second = ap number (piece 5 13 14 text_wide (omega arith) refl refl) ∙ number_2 x.second real_fits.second

  text_real : real_time (text_of x) ≡ true
  unfolding real_time
  text_real =
      and_both (run digit time_length (text_of x)) (real_moment (year (text_of x)) (month (text_of x)) (day (text_of x)) (hour (text_of x)) (minute (text_of x)) (second (text_of x)))
      (rw (← text_digits) (decimal_digits time_length _))
      (rw (text_year, text_month, text_day, text_hour, text_minute, text_second)
      (bounds_real x.year x.month x.day x.hour x.minute x.second b))

  text_seconds : seconds (text_of x) ≡ secs x.year x.month x.day x.hour x.minute x.second
  unfolding seconds
  text_seconds = rw (text_year, text_month, text_day, text_hour, text_minute, text_second)

-- ---- there and back

module _ (n : ℕ) (l : n < all_seconds) where
  -- every second below the last has a time
  pub at_real : real_time (time_at n) ≡ true
  unfolding time_at
  at_real = text_real (moment_at n) (at_bounds n l)

  pub at_seconds : seconds (time_at n) ≡ n
  unfolding time_at
  at_seconds = text_seconds (moment_at n) (at_bounds n l) ∙ at_secs n l

module _ (t : List ℕ) (h : real_time t ≡ true) where
  pub seconds_most : seconds t < all_seconds
  unfolding seconds
  seconds_most = secs_most (real_moment_lem t h)

  -- a real time is the time at its seconds
  pub at_its_seconds : time_at (seconds t) ≡ t
  at_its_seconds = seconds_one (time_at (seconds t)) t (at_real (seconds t) seconds_most) h (at_seconds (seconds t) seconds_most)

-- ---- what the time check tells

seconds_in : Option ℕ → ℕ
seconds_in (Some n) = n
seconds_in None = 0

module _ (t : List ℕ) where
  pub time_real : real_time t ≡ true → time_of t ≡ Some (seconds t)
  unfolding time_of time_where
  time_real h = rw h

  pub time_unreal : real_time t ≡ false → time_of t ≡ None
  unfolding time_of time_where
  time_unreal h = rw h

  pub real_told : is_real (time_of t) ≡ real_time t
  real_told = go (real_time t) refl
    where
      go : (b : Bool) → real_time t ≡ b → is_real (time_of t) ≡ b
      go true e = ap is_real (time_real e)
      go false e = ap is_real (time_unreal e)

  module _ (n : ℕ) (e : time_of t ≡ Some n) where
    told_real : real_time t ≡ true
    told_real = sym real_told ∙ ap is_real e

    pub told_most : n < all_seconds
    unfolding seconds_in
    told_most = let k : seconds t ≡ n = ap seconds_in (sym (time_real told_real) ∙ e) in omega (arith, seconds_most t told_real)
