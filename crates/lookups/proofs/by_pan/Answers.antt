use Rattle.lookups.proofs.Laws.{pan_lies, pan_lent}
use Rattle.lookups.proofs.by_pan.Goals as goal

pub slot_at-requires : goal.slot_at-requires
slot_at-requires c = pan_lies _ _ _ c.in_ok-place.ensures

pub returns : goal.returns
returns c = pan_lent _ _ _ c.in_ok-place.ensures _ c.slot_at.ensures
