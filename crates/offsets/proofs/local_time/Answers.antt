use mathlib.Core.Path.{sym, ◌∙◌}
use Rattle.offsets.specs.laws.Moved.{local_moved}
use Rattle.offsets.proofs.local_time.Goals as goal

pub returns : goal.returns
returns c = c.moved.ensures ∙ sym (local_moved _ _)
