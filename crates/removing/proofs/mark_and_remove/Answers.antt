use Rattle.slots.specs.laws.Slots.{used_fits}
use Rattle.removing.specs.laws.Marking.{left_by}
use Rattle.removing.proofs.mark_and_remove.Goals as goal

pub mark-requires : goal.mark-requires
mark-requires g c = rw c.requires.1 (used_fits _)

pub returns : goal.returns
returns g c = left_by _ _ _ _ c.requires.1 c.mark.ensures _ _ c.remove_marked.ensures
