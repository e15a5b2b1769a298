use mathlib.Core.Path.{sym, ◌∙◌}
use Rattle.sizes.specs.Sizes.{time_length}
use Rattle.writing.specs.laws.Put.{put_whole}
use Rattle.numbers.specs.laws.Number.{length_decimal}
use Rattle.calendar.specs.laws.Back.{Within, at_bounds}
use Rattle.calendar.specs.Calendar.{moment_at}
use Rattle.times.specs.Seconds.{time_at}
use Rattle.times.specs.laws.Back.{real_fits, text_digits}
use Rattle.times.proofs.write_time.Goals as goal

pub digits-requires : goal.digits-requires
digits-requires c = rw c.moment_at-x.ensures (real_fits (moment_at c.args.seconds) (at_bounds _ c.requires))

pub returns : goal.returns
unfolding time_at
returns c =
    let b : Within (moment_at c.args.seconds) = at_bounds c.args.seconds c.requires in
    c.put_number.ensures
    ∙ put_whole _ _ (length_decimal time_length c.digits.result ∙ sym c.told-to)
    ∙ rw (c.digits.ensures, c.moment_at-x.ensures) (text_digits (moment_at c.args.seconds) b)
