use native.Mathlib.Omega.{arith}
use Rattle.service_lookups.proofs.Laws.{plate_within, plate_told}
use Rattle.service_lookups.proofs.graftspindle_by_plate.Goals as goal

pub hand_back-requires : goal.hand_back-requires
hand_back-requires c = omega (arith, plate_within _ _ _ _ _ c.find_by_plate.ensures)

pub returns : goal.returns
returns c = plate_told _ _ _ _ _ c.find_by_plate.ensures _ c.hand_back.ensures.number _ c.hand_back.ensures.start _ c.hand_back.ensures.length
