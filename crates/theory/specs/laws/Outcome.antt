-- Two outcomes of one call are one: each public contract says that its result, and each lent block after the
-- call, equals a definition, and what equals one value is one. Assumes nothing.
use Rattle.std.specs.Prelude.{◌≡◌}
use Rattle.std.proofs.Common.{sym, ◌∙◌}

pub one_outcome : {A : Type 0} {x r s : A} → r ≡ x → s ≡ x → r ≡ s
one_outcome h k = h ∙ sym k
