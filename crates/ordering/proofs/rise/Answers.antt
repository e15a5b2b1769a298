use Rattle.theory.specs.laws.Below.{below_fails}
use Rattle.ordering.proofs.rise.Goals as goal

pub returns-in-Again-clause-repeated : goal.returns-in-Again-clause-repeated
returns-in-Again-clause-repeated c = λ e. below_fails _ _ _ c.if-marked-c.false (c.in-Again.ensures.repeated e)
