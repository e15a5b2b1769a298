use Rattle.lookups.proofs.Laws.{plate_lies, plate_lent}
use Rattle.lookups.proofs.by_plate.Goals as goal

pub slot_at-requires : goal.slot_at-requires
slot_at-requires c = plate_lies _ _ _ _ _ c.in_ok-place.ensures

pub returns : goal.returns
returns c = plate_lent _ _ _ _ _ c.in_ok-place.ensures _ c.slot_at.ensures
