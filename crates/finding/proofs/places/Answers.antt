use mathlib.Core.Path.{sym, ◌∙◌}
use borrow.Author.Tests.{eqb-true}
use Rattle.finding.proofs.Laws.{filled_none}
use Rattle.finding.proofs.places.Goals as goal

pub returns-then-is_empty : goal.returns-then-is_empty
returns-then-is_empty c = filled_none _ _ (eqb-true _ 0 (sym c.is_empty.ensures ∙ c.if-is_empty.true))
