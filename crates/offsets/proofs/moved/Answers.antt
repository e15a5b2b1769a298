use mathlib.Core.Path.{◌≡◌, sym}
use native.Mathlib.Omega.{arith}
use Rattle.std.specs.Prelude.{Some}
use Rattle.times.specs.Seconds.{time_of}
use Rattle.times.specs.laws.Back.{told_most}
use Rattle.offsets.specs.laws.Moved.{moved_early, moved_late, moved_within, moved_none}
use Rattle.offsets.proofs.moved.Goals as goal

pub returns-in_err-late : goal.returns-in_err-late
returns-in_err-late c = rw (c.from_residual.ensures, ← c.in_err-late.ensures) (sym (moved_none _ _))

pub overflow_add-late : goal.overflow_add-late
overflow_add-late c =
    let e : time_of c.args.t.now ≡ Some c.in_ok-late.field-0 = sym c.in_ok-late.ensures in
    record { fits = omega (arith, told_most _ _ e, c.requires) }

pub returns-in_err-seconds : goal.returns-in_err-seconds
returns-in_err-seconds c =
    let e : time_of c.args.t.now ≡ Some c.in_ok-late.field-0 = sym c.in_ok-late.ensures in
    rw (c.from_residual-in_err-seconds.ensures, e) (sym (moved_early _ _ _ (omega (arith, c.in_err-seconds.ensures))))

pub returns-then-seconds-lt-ALL : goal.returns-then-seconds-lt-ALL
returns-then-seconds-lt-ALL c =
    let e : time_of c.args.t.now ≡ Some c.in_ok-late.field-0 = sym c.in_ok-late.ensures in
    let f = c.in_ok-seconds.ensures in
    rw (e, f.1) (sym (moved_within _ _ _ f.0 (omega (arith, f.1, c.if-seconds-lt-ALL.true))))

pub returns-else-seconds-lt-ALL : goal.returns-else-seconds-lt-ALL
returns-else-seconds-lt-ALL c =
    let e : time_of c.args.t.now ≡ Some c.in_ok-late.field-0 = sym c.in_ok-late.ensures in
    let f = c.in_ok-seconds.ensures in
    rw e (sym (moved_late _ _ _ f.0 (omega (arith, f.1, c.if-seconds-lt-ALL.false))))
