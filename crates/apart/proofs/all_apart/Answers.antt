use Rattle.apart.proofs.Laws.{all_asked}
use Rattle.apart.proofs.all_apart.Goals as goal

pub returns : goal.returns
returns c = all_asked _ _ c.requires _ _ _ c.are_apart.ensures
