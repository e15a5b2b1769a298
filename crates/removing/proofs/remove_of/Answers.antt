use Rattle.holdings.specs.Holdings.{others}
use Rattle.removing.proofs.remove_of.Goals as goal

pub returns : goal.returns
unfolding others
returns c = c.remove_where.ensures
