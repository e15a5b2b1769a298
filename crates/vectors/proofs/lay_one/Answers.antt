use lib.ListN.{length}
use Rattle.theory.specs.laws.Parts.{length_part}
use Rattle.vectors.specs.Vectors.{text_most}
use Rattle.vectors.proofs.Laws.{lay_lent}
use mathlib.Core.Path.{refl, ap, ◌∙◌}
use native.Mathlib.Omega.{arith}
use Rattle.vectors.proofs.lay_one.Goals as goal

pub slice_bounds-put_field-end : goal.slice_bounds-put_field-end
slice_bounds-put_field-end c = omega (arith, ap length c.part-text.ensures ∙ length_part text_most _ _ (omega arith))

pub returns : goal.returns
returns c = lay_lent _ _ _ _ _ _ _ _ c.part-text.ensures refl c.put_field.ensures
