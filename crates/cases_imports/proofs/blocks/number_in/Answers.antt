use Rattle.texts.specs.laws.Field.{field_short}
use native.Mathlib.Omega.{arith}
use Rattle.cases_imports.proofs.blocks.number_in.Goals as goal

pub number-requires : goal.number-requires
number-requires c = field_short _ _ 15 _ _ c.field.ensures (omega arith)
