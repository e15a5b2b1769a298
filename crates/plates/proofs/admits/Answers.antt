use borrow.Author.Rules.{rules}
use Rattle.plates.proofs.Laws.{judged}
use Rattle.plates.proofs.admits.Goals as goal

pub returns : goal.returns
returns c = rw c.from.ensures (judged _ c.requires _ (search rules))
