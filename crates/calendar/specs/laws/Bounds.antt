-- The numbers of a real moment lie within their bounds, and what lies within them is real. Assumes nothing.
use Rattle.std.specs.Prelude.{◌≡◌, refl, Bool, true, false, ◌&&◌, ◌||◌, cond, ℕ, ◌≤◌, leb, eqb}
use Rattle.std.proofs.Common.{arith, leb-true, le-leb}
use Rattle.theory.specs.laws.Truth.{and_left, and_right, and_both}
use Rattle.fields.specs.Field.{between}
use Rattle.calendar.specs.Calendar.{leap, days_in, real_day, real_clock, real_moment}
use Rattle.calendar.specs.Bounds.{Bounds}

pub within : (lo hi n : ℕ) → between lo hi n ≡ true → (lo ≤ n) × (n ≤ hi)
within lo hi n e = (leb-true lo n (and_left (leb lo n) (leb n hi) e), leb-true n hi (and_right (leb lo n) (leb n hi) e))

is_between : (lo hi n : ℕ) → lo ≤ n → n ≤ hi → between lo hi n ≡ true
is_between lo hi n l m = and_both (leb lo n) (leb n hi) (le-leb lo n l) (le-leb n hi m)

-- a month that has a day is a month
month_is : (y m : ℕ) → 1 ≤ days_in y m → (1 ≤ m) × (m ≤ 12)
unfolding days_in
month_is y m = go (between 1 12 m) refl (cond (eqb m 2) (cond (leap y) 29 28) (cond (eqb m 4 || eqb m 6 || eqb m 9 || eqb m 11) 30 31)) where
  go : (b : Bool) → between 1 12 m ≡ b → (n : ℕ) → 1 ≤ cond b n 0 → (1 ≤ m) × (m ≤ 12)
  go true e n h = within 1 12 m e
  go false e n h = absurd (omega arith)

-- no month has more than 31 days
pub days_most : (y m : ℕ) → days_in y m ≤ 31
unfolding days_in
days_most y m = go (between 1 12 m) (eqb m 2) (leap y) (eqb m 4 || eqb m 6 || eqb m 9 || eqb m 11) where
  go : (a b c d : Bool) → cond a (cond b (cond c 29 28) (cond d 30 31)) 0 ≤ 31
  go true true true d = omega arith
  go true true false d = omega arith
  go true false c true = omega arith
  go true false c false = omega arith
  go false b c d = omega arith

module _ (y m d h i s : ℕ) where
  pub bounds : real_moment y m d h i s ≡ true → Bounds y m d h i s
  bounds e =
      let day-true : real_day y m d ≡ true = and_left (real_day y m d) (real_clock h i s) e in
      let clock-true : real_clock h i s ≡ true = and_right (real_day y m d) (real_clock h i s) e in
      let in-days : (1 ≤ d) × (d ≤ days_in y m) = within 1 (days_in y m) d (and_right (between 1 9999 y) (between 1 (days_in y m) d) day-true) in
      let hour-minute : leb h 23 && leb i 59 ≡ true = and_left (leb h 23 && leb i 59) (leb s 59) clock-true in
      record {
        year = within 1 9999 y (and_left (between 1 9999 y) (between 1 (days_in y m) d) day-true);
        month = month_is y m (omega arith);
        day = in-days;
        hour = leb-true h 23 (and_left (leb h 23) (leb i 59) hour-minute);
        minute = leb-true i 59 (and_right (leb h 23) (leb i 59) hour-minute);
        second = leb-true s 59 (and_right (leb h 23 && leb i 59) (leb s 59) clock-true);
      }

  -- and what lies within them is real
  pub bounds_real : Bounds y m d h i s → real_moment y m d h i s ≡ true
  bounds_real x =
      and_both (real_day y m d) (real_clock h i s)
      (and_both (between 1 9999 y) (between 1 (days_in y m) d) (is_between 1 9999 y x.year.0 x.year.1) (is_between 1 (days_in y m) d x.day.0 x.day.1))
      (and_both (leb h 23 && leb i 59) (leb s 59) (and_both (leb h 23) (leb i 59) (le-leb h 23 x.hour) (le-leb i 59 x.minute)) (le-leb s 59 x.second))
