use Rattle.offsets.specs.laws.Moved.{Written}
use Rattle.offsets.proofs.write.Goals as goal

pub write_time-requires : goal.write_time-requires
unfolding Written
write_time-requires c = rw c.in-Some.is at c.requires

pub returns-in-Some : goal.returns-in-Some
returns-in-Some c = rw c.in-Some.is c.write_time.ensures

pub returns-in_default : goal.returns-in_default
unfolding Written
returns-in_default c = absurd (rw c.in_default.is at c.requires)
