use Rattle.pans.proofs.Laws.{listed}
use Rattle.pans.proofs.doubled.Goals as goal

pub returns : goal.returns
returns c = listed _ c.args.by.now.listed _ c.requires
