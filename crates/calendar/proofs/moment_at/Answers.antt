use mathlib.Core.Path.{◌≡◌}
use Prim.Native.Nat.{ℕ, ◌+◌, ◌-◌, ◌/◌, ◌<◌, ◌≤◌}
use native.Mathlib.Omega.{arith}
use Rattle.calendar.specs.Calendar.{days_in, months_to, year_days, years_to, day_seconds, all_seconds, over, moment_in, moment_at}
use Rattle.calendar.specs.laws.Back.{days_before, years_past, year_most, year_rest, months_past, month_most}
use Rattle.calendar.proofs.moment_at.Goals as goal

-- Assumes nothing.
-- what the calls found: y years are over, a days are in them; m months of the next are over, b days are in them
module _ (n y : ℕ) (l : n < all_seconds) (ey : y ≡ over year_days 9999 (n / day_seconds)) where
  few : y ≤ 9998
  few = year_most (n / day_seconds) y (days_before n l) ey

  module _ (a : ℕ) (ea : a ≡ years_to y) where
    years-fit : a ≤ n / day_seconds
    years-fit = rw ea (years_past (n / day_seconds) y (days_before n l) ey)

    rest-fits : n / day_seconds - a < year_days (y + 1)
    rest-fits = rw ea (year_rest (n / day_seconds) y (days_before n l) ey)

    module _ (m : ℕ) (em : m ≡ over (days_in (y + 1)) 12 (n / day_seconds - a)) where
      month-fits : m ≤ 11
      month-fits = month_most (y + 1) (n / day_seconds - a) m rest-fits em

      months-fit : (b : ℕ) → b ≡ months_to (y + 1) m → b ≤ n / day_seconds - a
      months-fit b eb = rw eb (months_past (y + 1) (n / day_seconds - a) m rest-fits em)

pub years_over-y-requires : goal.years_over-y-requires
years_over-y-requires c = days_before c.args.n c.requires

pub years_to-requires : goal.years_to-requires
years_to-requires c = omega (arith, few c.args.n c.years_over-y.result c.requires c.years_over-y.ensures)

pub overflow_sub-rest : goal.overflow_sub-rest
overflow_sub-rest c = years-fit c.args.n c.years_over-y.result c.requires c.years_over-y.ensures c.years_to.result c.years_to.ensures

pub overflow_add-y : goal.overflow_add-y
overflow_add-y c = omega (arith, few c.args.n c.years_over-y.result c.requires c.years_over-y.ensures)

pub months_over-m-requires : goal.months_over-m-requires
months_over-m-requires c = rest-fits c.args.n c.years_over-y.result c.requires c.years_over-y.ensures c.years_to.result c.years_to.ensures

pub overflow_add-y-2 : goal.overflow_add-y-2
overflow_add-y-2 c = omega (arith, few c.args.n c.years_over-y.result c.requires c.years_over-y.ensures)

pub months_to-requires : goal.months_to-requires
months_to-requires c =
    let y = c.years_over-y in
    let a = c.years_to in
    omega (arith, month-fits c.args.n y.result c.requires y.ensures a.result a.ensures c.months_over-m.result c.months_over-m.ensures)

pub overflow_sub-d : goal.overflow_sub-d
overflow_sub-d c =
    let y = c.years_over-y in
    let a = c.years_to in
    let m = c.months_over-m in
    months-fit c.args.n y.result c.requires y.ensures a.result a.ensures m.result m.ensures c.months_to.result c.months_to.ensures

pub overflow_add-result : goal.overflow_add-result
overflow_add-result c = omega (arith, few c.args.n c.years_over-y.result c.requires c.years_over-y.ensures)

pub overflow_add-result-2 : goal.overflow_add-result-2
overflow_add-result-2 c =
    let y = c.years_over-y in
    let a = c.years_to in
    let m = c.months_over-m in
    omega (arith, month-fits c.args.n y.result c.requires y.ensures a.result a.ensures m.result m.ensures)

pub returns : goal.returns
unfolding moment_at moment_in
returns c = rw (c.months_to.ensures, c.months_over-m.ensures, c.years_to.ensures, c.years_over-y.ensures)
