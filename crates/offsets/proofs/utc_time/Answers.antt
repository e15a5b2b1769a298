use mathlib.Core.Path.{sym, ◌∙◌}
use Rattle.offsets.specs.laws.Moved.{utc_moved}
use Rattle.offsets.proofs.utc_time.Goals as goal

pub returns : goal.returns
returns c = c.moved.ensures ∙ sym (utc_moved _ _)
