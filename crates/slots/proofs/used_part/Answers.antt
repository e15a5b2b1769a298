use mathlib.Core.Path.{sym}
use lib.Seq.{length-take-le}
use Rattle.slots.specs.laws.Slots.{used_room}
use Rattle.slots.proofs.used_part.Goals as goal

pub slice_bounds-result-end : goal.slice_bounds-result-end
slice_bounds-result-end c = sym (length-take-le _ _ (used_room _ _ c.used_slots.ensures))
