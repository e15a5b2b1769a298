-- A text that ends before the field, one that ends within it, and one that has it whole.
use native.Mathlib.Omega.{arith}
use Rattle.texts.proofs.Laws.{field_none, field_cut, field_whole}
use Rattle.texts.proofs.field.Goals as goal

pub returns-then-text-from : goal.returns-then-text-from
returns-then-text-from c = field_none _ _ _ c.if-text-from.true

pub returns-then-text-to : goal.returns-then-text-to
returns-then-text-to c = field_cut _ _ _ (omega arith) (omega arith)

pub returns : goal.returns
returns c = field_whole _ _ _ (omega arith, omega arith)
