-- No more values than four bytes have.
use Rattle.std.proofs.Common.{◌≤◌, ◌^◌, arith}
use Rattle.std.proofs.Math.Nat.{pow-le-pow_left, pow-le-pow_right}
use Rattle.ranges.proofs.values.Goals as goal

pub pow-requires : goal.pow-requires
pow-requires c =
    let b = c.base.result in
    let w = c.args.width in
    let e : b ^ w ≤ 256 ^ w = pow-le-pow_left (omega arith) w in
    let f : 256 ^ w ≤ 256 ^ 4 = pow-le-pow_right {n = 256} (omega arith) {i = w} {j = 4} (omega arith) in
    omega (arith, e, f)
