-- The moment at a second is real, and has that second: the way back. Assumes nothing.
use Rattle.std.specs.Prelude.{◌≡◌, Bool, ltb}
use Rattle.std.proofs.Math.Path.{refl}
use Rattle.std.proofs.Common.{◌∙◌}
use Rattle.std.proofs.Math.Bool.{true, false, cond}
use Prim.Native.Nat.{ℕ, zero, suc, ◌+◌, ◌*◌, ◌-◌, ◌/◌, ◌%◌, ◌≤◌, ◌<◌}
use native.Mathlib.Omega.{arith}
use Rattle.std.proofs.Math.Numerals.{add-one}
use Rattle.std.proofs.Math.Dec.{leb}
use borrow.Author.Tests.{leb-true, leb-false, ltb-true, ltb-false}
use Rattle.calendar.specs.declared.Moment.{Moment}
use Rattle.calendar.specs.Calendar.{days_in, sum, months_to, year_days, years_to, days, secs, day_seconds, all_seconds, over, moment_in, moment_at}
use Rattle.calendar.specs.Bounds.{Bounds}
use Rattle.calendar.specs.laws.Order.{sum_grows, in_year}
use Rattle.calendar.specs.laws.Years.{all_seconds_lem}

-- ---- how many parts are over

module _ (f : ℕ → ℕ) where
  pub sum_next : (n : ℕ) → sum f (n + 1) ≡ sum f n + f (n + 1)
  unfolding sum
  sum_next n = rw add-one

  -- parts that are over are before those that are not
  pub over_most : (k n d : ℕ) → sum f k ≤ d → d < sum f n → k < n
  over_most k n d h l = go (ltb k n) refl
    where
      go : (b : Bool) → ltb k n ≡ b → k < n
      go true e = ltb-true k n e
      go false e = absurd (omega (arith, sum_grows f n k (ltb-false k n e)))

  -- k are over and k + 1 are not
  pub over_is : (n d k : ℕ) → k ≤ n → sum f k ≤ d → d < sum f (k + 1) → over f n d ≡ k
  unfolding over
  over_is zero d k m h l = omega arith
  over_is (suc n) d k m h l = go (leb (sum f (suc n)) d) refl (over_is n d k)
    where
      go : (b : Bool) → leb (sum f (suc n)) d ≡ b → (k ≤ n → sum f k ≤ d → d < sum f (k + 1) → over f n d ≡ k) → cond b (suc n) (over f n d) ≡ k
      go true e ih = omega (arith, over_most (suc n) (k + 1) d (leb-true (sum f (suc n)) d e) l)
      go false e ih = ih (omega (arith, over_most k (suc n) d h (leb-false (sum f (suc n)) d e))) h l

  pub over_past : (n d : ℕ) → sum f (over f n d) ≤ d
  unfolding over sum
  over_past zero d = omega arith
  over_past (suc n) d = go (leb (sum f (suc n)) d) refl (over_past n d)
    where
      go : (b : Bool) → leb (sum f (suc n)) d ≡ b → sum f (over f n d) ≤ d → sum f (cond b (suc n) (over f n d)) ≤ d
      go true e ih = leb-true (sum f (suc n)) d e
      go false e ih = ih

  -- where the first n are not all over
  pub over_ahead : (n d : ℕ) → d < sum f n → d < sum f (over f n d + 1)
  unfolding over
  over_ahead zero d l = omega (arith, sum_grows f 0 1 (omega arith))
  over_ahead (suc n) d l = go (leb (sum f (suc n)) d) refl (leb (sum f n) d) refl (over_ahead n d)
    where
      here : d < sum f (n + 1)
      here = rw add-one l

      go : (b : Bool) → leb (sum f (suc n)) d ≡ b → (c : Bool) → leb (sum f n) d ≡ c → (d < sum f n → d < sum f (over f n d + 1)) → d < sum f (cond b (suc n) (over f n d) + 1)
      go true e c g ih = absurd (omega (arith, leb-true (sum f (suc n)) d e))
      go false e true g ih = rw (over_is n d n (omega arith) (leb-true (sum f n) d g) here) here
      go false e false g ih = ih (leb-false (sum f n) d g)

-- ---- the moment

-- the years that are over, where one of the 9999 is not
module _ (d y : ℕ) (l : d < years_to 9999) (e : y ≡ over year_days 9999 d) where
  pub years_past : years_to y ≤ d
  years_past = rw e (over_past year_days 9999 d)

  pub year_most : y ≤ 9998
  year_most = omega (arith, over_most year_days y 9999 d years_past l)

  -- what is left lies in the next year
  pub year_rest : d - years_to y < year_days (y + 1)
  year_rest = let k : d < years_to (y + 1) = rw e (over_ahead year_days 9999 d l) in omega (arith, years_past, sum_next year_days y)

-- and its months
module _ (y r m : ℕ) (l : r < year_days y) (e : m ≡ over (days_in y) 12 r) where
  pub months_past : months_to y m ≤ r
  months_past = rw e (over_past (days_in y) 12 r)

  pub month_most : m ≤ 11
  unfolding year_days
  month_most = omega (arith, over_most (days_in y) m 12 r months_past l)

  pub month_rest : r - months_to y m < days_in y (m + 1)
  unfolding year_days
  month_rest = let k : r < months_to y (m + 1) = rw e (over_ahead (days_in y) 12 r l) in omega (arith, months_past, sum_next (days_in y) m)

module _ (d c : ℕ) (l : d < years_to 9999) (k : c < day_seconds) where
  abbrev y : ℕ
  y = over year_days 9999 d

  abbrev r : ℕ
  r = d - years_to y

  abbrev m : ℕ
  m = over (days_in (y + 1)) 12 r

  rest : r < year_days (y + 1)
  rest = year_rest d y l refl

  in_bounds : Bounds (y + 1) (m + 1) (r - months_to (y + 1) m + 1) (c / 3600) (c / 60 % 60) (c % 60)
  in_bounds =
      record {
        year = (omega arith, omega (arith, year_most d y l refl));
        month = (omega arith, omega (arith, month_most (y + 1) r m rest refl));
        day = (omega arith, omega (arith, month_rest (y + 1) r m rest refl));
        hour = omega arith;
        minute = omega arith;
        second = omega arith;
      }

  in_secs : secs (y + 1) (m + 1) (r - months_to (y + 1) m + 1) (c / 3600) (c / 60 % 60) (c % 60) ≡ d * day_seconds + c
  unfolding secs days
  in_secs =
      let ey : y + 1 - 1 ≡ y = omega arith in
      let em : m + 1 - 1 ≡ m = omega arith in
      rw (ey, em) (omega (arith, years_past d y l refl, months_past (y + 1) r m rest refl))

-- the six numbers of a moment lie within their bounds
abbrev pub Within : Moment → Type 0
Within x = Bounds x.year x.month x.day x.hour x.minute x.second

module _ (n : ℕ) (l : n < all_seconds) where
  pub days_before : n / day_seconds < years_to 9999
  days_before = omega (arith, all_seconds_lem)

  pub at_bounds : Within (moment_at n)
  unfolding moment_at moment_in
  at_bounds = in_bounds (n / day_seconds) (n % day_seconds) days_before (omega arith)

  pub at_secs : secs (moment_at n).year (moment_at n).month (moment_at n).day (moment_at n).hour (moment_at n).minute (moment_at n).second ≡ n
  unfolding moment_at moment_in
  at_secs = in_secs (n / day_seconds) (n % day_seconds) days_before (omega arith) ∙ omega arith

-- and no real moment has more
pub secs_most : {y m d h i s : ℕ} → Bounds y m d h i s → secs y m d h i s < all_seconds
unfolding secs
secs_most {y} x = omega (arith, in_year x, sum_grows year_days y 9999 x.year.1, all_seconds_lem)
