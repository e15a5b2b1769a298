use mathlib.Core.Path.{◌≡◌, sym}
use Rattle.std.specs.Prelude.{Some, None}
use Rattle.times.specs.Seconds.{time_of}
use Rattle.service_times.specs.Promises.{number_of, seconds_in}
use Rattle.service_times.proofs.graftspindle_seconds.Goals as goal

pub returns-in-Some : goal.returns-in-Some
unfolding number_of seconds_in
returns-in-Some c =
    let e : time_of c.args.time.now ≡ Some c.in-Some.n = sym c.in-Some.ensures in
    (sym (rw e), sym (rw e))

pub returns-in-None : goal.returns-in-None
unfolding number_of seconds_in
returns-in-None c =
    let e : time_of c.args.time.now ≡ None = sym c.in-None.ensures in
    (sym (rw e), sym (rw e))
