-- A moment whose digits come later is a later second. Assumes nothing.
use Rattle.std.specs.Prelude.{◌≡◌, Bool, ℕ, zero, suc, ◌+◌, ◌*◌, ◌-◌, ◌<◌, ◌≤◌}
use Rattle.std.proofs.Math.Path.{refl}
use Rattle.std.proofs.Math.Bool.{true, false}
use Rattle.std.proofs.Common.{add-zero, add-suc}
use native.Mathlib.Omega.{arith}
use Rattle.std.proofs.Math.Dec.{ltb}
use borrow.Author.Tests.{ltb-true, ltb-false}
use Rattle.calendar.specs.Calendar.{days_in, sum, months_to, year_days, years_to, days, secs}
use Rattle.calendar.specs.Bounds.{Bounds}
use Rattle.calendar.specs.laws.Bounds.{days_most}

-- YYYYMMDD as one number
abbrev date : ℕ → ℕ → ℕ → ℕ
date y m d = (y * 100 + m) * 100 + d

-- YYYYMMDDhhmmss as one number
abbrev pub stamp : ℕ → ℕ → ℕ → ℕ → ℕ → ℕ → ℕ
stamp y m d h i s = ((date y m d * 100 + h) * 100 + i) * 100 + s

sum_step : (f : ℕ → ℕ) (n : ℕ) → 1 ≤ n → sum f n ≡ sum f (n - 1) + f n
unfolding sum
sum_step f zero h = absurd (omega arith)
sum_step f (suc n) h = let e : suc n - 1 ≡ n = omega arith in rw e

pub sum_grows : (f : ℕ → ℕ) (m n : ℕ) → m ≤ n → sum f m ≤ sum f n
unfolding sum
sum_grows f m n h = let e : m + (n - m) ≡ n = omega arith in rw e at (go (n - m)) where
  go : (k : ℕ) → sum f m ≤ sum f (m + k)
  go zero = rw add-zero (omega arith)
  go (suc k) = rw add-suc (omega (arith, go k))

-- a day lies within its month, and within its year
module _ {y m d h i s : ℕ} (x : Bounds y m d h i s) where
  in_month : months_to y (m - 1) + (d - 1) < months_to y m
  in_month = omega (arith, sum_step (days_in y) m x.month.0)

  pub in_year : days y m d < years_to y
  unfolding days year_days
  in_year = omega (arith, in_month, sum_grows (days_in y) m 12 x.month.1, sum_step year_days y x.year.0)

  day_most : d ≤ 31
  day_most = omega (arith, days_most y m)

module _ {y m d h i s y' m' d' h' i' s' : ℕ} (x : Bounds y m d h i s) (x' : Bounds y' m' d' h' i' s') where
  -- a later date is a later day
  later_day : date y m d < date y' m' d' → days y m d < days y' m' d'
  unfolding days
  later_day l = go (ltb y y') refl (ltb m m') refl where
    go : (a : Bool) → ltb y y' ≡ a → (b : Bool) → ltb m m' ≡ b → days y m d < days y' m' d'
    go true e b f = omega (arith, in_year x, sum_grows year_days y (y' - 1) (omega (arith, ltb-true y y' e)))
    go false e true f =
        let ey : y ≡ y' = omega (arith, ltb-false y y' e, day_most x, day_most x') in
        rw (← ey) (omega (arith, in_month x, sum_grows (days_in y) m (m' - 1) (omega (arith, ltb-true m m' f))))
    go false e false f =
        let ey : y ≡ y' = omega (arith, ltb-false y y' e, day_most x, day_most x') in
        let em : m ≡ m' = omega (arith, ltb-false m m' f, day_most x, day_most x') in
        rw (← ey, ← em) (omega arith)

  -- a later stamp is a later second
  pub later : stamp y m d h i s < stamp y' m' d' h' i' s' → secs y m d h i s < secs y' m' d' h' i' s'
  unfolding secs
  later l = go (ltb (date y m d) (date y' m' d')) refl where
    go : (a : Bool) → ltb (date y m d) (date y' m' d') ≡ a → secs y m d h i s < secs y' m' d' h' i' s'
    go true e = omega (arith, later_day (ltb-true (date y m d) (date y' m' d') e))
    go false e =
        let f : date y m d ≡ date y' m' d' = omega (arith, ltb-false (date y m d) (date y' m' d') e) in
        let ey : y ≡ y' = omega (arith, day_most x, day_most x') in
        let em : m ≡ m' = omega (arith, day_most x, day_most x') in
        let ed : d ≡ d' = omega arith in
        rw (← ey, ← em, ← ed) (omega arith)
