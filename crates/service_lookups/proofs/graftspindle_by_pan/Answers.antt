use native.Mathlib.Omega.{arith}
use Rattle.service_lookups.proofs.Laws.{pan_within, pan_told}
use Rattle.service_lookups.proofs.graftspindle_by_pan.Goals as goal

pub hand_back-requires : goal.hand_back-requires
hand_back-requires c = omega (arith, pan_within _ _ _ c.find_by_pan.ensures)

pub returns : goal.returns
returns c = pan_told _ _ _ c.find_by_pan.ensures _ c.hand_back.ensures.number _ c.hand_back.ensures.start _ c.hand_back.ensures.length
