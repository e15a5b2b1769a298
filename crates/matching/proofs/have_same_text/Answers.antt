use Rattle.matching.proofs.Laws.{other_pan}
use mathlib.Core.Path.{sym}
use Rattle.matching.proofs.have_same_text.Goals as goal

pub returns-then-not-has : goal.returns-then-not-has
returns-then-not-has c = sym (other_pan _ c.requires _ _ _ c.of.ensures _ c.has.ensures (c.if-not-has.true))
