use native.Mathlib.Omega.{arith}
use Rattle.texts.specs.laws.Field.{field_most}
use Rattle.times.proofs.number_at.Goals as goal

pub number-requires : goal.number-requires
number-requires c = rw c.field.ensures (omega (arith, field_most c.args.from c.args.to c.args.t.now))
