use Rattle.theory.specs.laws.Parts.{part_is}
use Rattle.texts.proofs.part.Goals as goal

pub returns : goal.returns
returns c = part_is _ _ _
