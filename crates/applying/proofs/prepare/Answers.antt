use Rattle.applying.proofs.Laws.{all_gone, none_gone}
use Rattle.applying.proofs.prepare.Goals as goal

pub returns-then-mode-eq-FULL : goal.returns-then-mode-eq-FULL
returns-then-mode-eq-FULL c = rw (← all_gone _ _ _ c.if-mode-eq-FULL.true) c.remove_of.ensures

pub returns : goal.returns
returns c = none_gone _ c.requires _ _ _ c.if-mode-eq-FULL.false c.used_slots.ensures
