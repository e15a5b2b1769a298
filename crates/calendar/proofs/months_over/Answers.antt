use mathlib.Core.Path.{sym}
use Prim.Native.Nat.{◌+◌, ◌/◌, ◌≤◌}
use native.Mathlib.Omega.{arith}
use Rattle.calendar.specs.Calendar.{days_in, months_to, year_days}
use Rattle.calendar.specs.laws.Years.{months_most}
use Rattle.calendar.specs.laws.Back.{over_most, over_is}
use Rattle.calendar.proofs.months_over.Goals as goal

pub loop-m-init : goal.loop-m-init
unfolding year_days
loop-m-init c =
    let y = c.args.y in
    let d = c.args.days in
    let h : months_to y (d / 31) ≤ d = omega (arith, months_most y (d / 31)) in
    (h, omega (arith, over_most (days_in y) (d / 31) 12 d h c.requires))

pub loop-m-preserved : goal.loop-m-preserved
unfolding year_days
loop-m-preserved c =
    let y = c.args.y in
    let d = c.args.days in
    let m = c.loop-m.m in
    let h : months_to y (m + 1) ≤ d = omega arith in
    (h, omega (arith, over_most (days_in y) (m + 1) 12 d h c.requires))

pub returns : goal.returns
returns c =
    let y = c.args.y in
    let d = c.args.days in
    let m = c.loop-m.m in
    sym (over_is (days_in y) 12 d m (omega arith) c.loop-m.invariant.0 (omega arith))
