use mathlib.Core.Path.{◌≡◌}
use native.Mathlib.Omega.{arith}
use mir.Syntax.{w64}
use mir.Val.{to_z, of_z}
use mir.ValLaws.{to_z-of_z, to_z_pos}
use Rattle.offsets.specs.Ahead.{ahead_of}
use Rattle.offsets.specs.laws.Shift.{ahead_most_lem, ahead_sum}
use Rattle.offsets.proofs.ahead.Goals as goal

pub overflow_add-ahead : goal.overflow_add-ahead
overflow_add-ahead c =
    let z = c.args.offset in
    let e : to_z w64 (of_z w64 z) ≡ z = to_z-of_z w64 z c.ranges.offset in
    rw (e, ahead_sum z c.requires) (record { sfits = omega (arith, ahead_most_lem z c.requires) })

pub overflow_cast-ahead : goal.overflow_cast-ahead
overflow_cast-ahead c =
    let z = c.args.offset in
    let e : to_z w64 (of_z w64 z) ≡ z = to_z-of_z w64 z c.ranges.offset in
    rw (e, ahead_sum z c.requires, to_z_pos w64 (ahead_of z) (omega (arith, ahead_most_lem z c.requires))) (tt, record { fits = omega (arith, ahead_most_lem z c.requires) })

pub returns : goal.returns
returns c =
    let z = c.args.offset in
    let e : to_z w64 (of_z w64 z) ≡ z = to_z-of_z w64 z c.ranges.offset in
    rw (e, ahead_sum z c.requires, to_z_pos w64 (ahead_of z) (omega (arith, ahead_most_lem z c.requires)))

pub invariant_of-result : goal.invariant_of-result
invariant_of-result c =
    let z = c.args.offset in
    let e : to_z w64 (of_z w64 z) ≡ z = to_z-of_z w64 z c.ranges.offset in
    record {
      few = rw (e, ahead_sum z c.requires, to_z_pos w64 (ahead_of z) (omega (arith, ahead_most_lem z c.requires))) (ahead_most_lem z c.requires);
    }
