use mathlib.Core.Path.{◌≡◌, sym, ◌∙◌}
use mathlib.Core.Bool.{true, false}
use Rattle.times.specs.Time.{real_time}
use Rattle.times.specs.Seconds.{time_of, time_where, seconds}
use Rattle.times.specs.laws.Moment.{real_moment_lem}
use Rattle.times.proofs.time_of.Goals as goal

pub returns-then-not-is_real : goal.returns-then-not-is_real
unfolding time_of time_where real_time
returns-then-not-is_real c =
    let h : real_time c.args.t.now ≡ false = sym (rw c.moment_of-x.ensures at c.is_real.ensures) ∙ c.if-not-is_real.true in rw h

pub seconds-requires : goal.seconds-requires
unfolding real_time
seconds-requires c =
    let h : real_time c.args.t.now ≡ true = sym (rw c.moment_of-x.ensures at c.is_real.ensures) ∙ c.if-not-is_real.false in
    rw c.moment_of-x.ensures (real_moment_lem c.args.t.now h)

pub returns : goal.returns
unfolding time_of time_where real_time seconds
returns c =
    let h : real_time c.args.t.now ≡ true = sym (rw c.moment_of-x.ensures at c.is_real.ensures) ∙ c.if-not-is_real.false in
    rw (h, c.seconds.ensures, c.moment_of-x.ensures)
