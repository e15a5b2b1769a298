use mathlib.Core.Path.{refl}
use Rattle.closing.proofs.Laws.{closed}
use Rattle.closing.proofs.close_up.Goals as goal

pub returns : goal.returns
returns c = closed _ _ _ _ _ _ refl c.move_up-k.ensures _ (c.fill.ensures.after (λ y e. e))
