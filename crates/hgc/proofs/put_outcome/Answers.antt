use mathlib.Core.Path.{◌∙◌}
use Rattle.writing.specs.laws.Put.{put_ap}
use Rattle.hgc.proofs.Laws.{outcome_none, outcome_some}
use Rattle.hgc.proofs.put_outcome.Goals as goal

pub returns-then-rejected-eq0 : goal.returns-then-rejected-eq0
returns-then-rejected-eq0 c = c.put_field.ensures ∙ put_ap 108 _ (outcome_none _ c.if-rejected-eq0.true)

pub returns-else-rejected-eq0 : goal.returns-else-rejected-eq0
returns-else-rejected-eq0 c = c.put_field-else-rejected-eq0.ensures ∙ put_ap 108 _ (outcome_some _ c.if-rejected-eq0.false)
