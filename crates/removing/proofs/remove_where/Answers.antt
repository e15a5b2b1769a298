use mathlib.Core.Path.{sym, ◌∙◌}
use native.Mathlib.Omega.{arith}
use lib.Seq.{length-take-le}
use Rattle.removing.specs.laws.Marking.{used_within}
use Rattle.removing.proofs.remove_where.Goals as goal

pub slice_bounds-marks-end : goal.slice_bounds-marks-end
slice_bounds-marks-end g c = omega (arith, c.used_slots-used.ensures, used_within _ c.requires)

pub slice_bounds-mark_and_remove-end : goal.slice_bounds-mark_and_remove-end
slice_bounds-mark_and_remove-end g c = sym (length-take-le _ _ (omega (arith, c.used_slots-used.ensures, used_within _ c.requires)))

pub mark_and_remove-requires : goal.mark_and_remove-requires
mark_and_remove-requires g c = (c.requires, length-take-le _ _ (omega (arith, c.used_slots-used.ensures, used_within _ c.requires)) ∙ c.used_slots-used.ensures)
