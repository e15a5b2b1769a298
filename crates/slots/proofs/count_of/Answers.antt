use Rattle.std.proofs.Common.{arith}
use Rattle.std.proofs.lemmas.Grind.{common_steps}
use Rattle.theory.specs.laws.Words.{sift_is}
use Rattle.slots.specs.Search.{count_of}
use Rattle.slots.proofs.count_of.Goals as goal

pub returns : goal.returns
unfolding count_of
returns c = rw (sift_is _ _) (grind (arith, common_steps))
