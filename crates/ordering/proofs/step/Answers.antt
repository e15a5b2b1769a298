use mathlib.Core.Path.{ap}
use mathlib.Core.Bool.{not}
use Rattle.ordering.proofs.Laws.{step_same}
use Rattle.ordering.proofs.step.Goals as goal

-- Nested pairs as the record of the clauses.
as_clauses : {T0 T1 : Type 0} → T0 × T1 → record { rising : T0; repeated : T1 }
as_clauses p = record { rising = p.0; repeated = p.1 }

pub returns : goal.returns
returns c =
    as_clauses (step_same _ _ _ _ _ _ _ _ c.key-here.ensures c.key-there.ensures _ c.same.ensures (ap not c.if-not-same.false) c.requires.there _ (c.stay.ensures.rising, c.stay.ensures.repeated))
