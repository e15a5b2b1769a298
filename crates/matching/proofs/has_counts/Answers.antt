use Rattle.texts.specs.laws.Field.{field_short}
use native.Mathlib.Omega.{arith}
use Rattle.matching.proofs.has_counts.Goals as goal

pub number-requires : goal.number-requires
number-requires c = field_short _ _ 15 _ _ c.of-said_taken.ensures (omega arith)

pub number-requires-then-number-taken : goal.number-requires-then-number-taken
number-requires-then-number-taken c = field_short _ _ 15 _ _ c.of-said_rejected.ensures (omega arith)
