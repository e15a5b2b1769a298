use Rattle.sizes.specs.Sizes.{parts_most}
use Rattle.finding.proofs.Laws.{places_firsts}
use Rattle.finding.proofs.firsts.Goals as goal

pub returns : goal.returns
returns c = places_firsts _ _ parts_most c.requires.few _ _ c.fill.ensures
