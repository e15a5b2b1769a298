use Rattle.texts.specs.laws.Field.{field_short}
use Rattle.vectors.proofs.Laws.{changed_by}
use native.Mathlib.Omega.{arith}
use Rattle.vectors.proofs.change.Goals as goal

pub number-from-requires : goal.number-from-requires
number-from-requires c = field_short _ _ 15 _ _ c.field.ensures (omega arith)

pub returns : goal.returns
returns c = changed_by _ _ _ _ _ _ c.field.ensures c.number-from.ensures c.field-2.ensures c.put_text.ensures
