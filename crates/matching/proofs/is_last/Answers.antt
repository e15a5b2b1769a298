use Rattle.pairing.specs.laws.Turns.{last_none}
use Rattle.matching.proofs.Laws.{last_is}
use mathlib.Core.Path.{sym}
use Rattle.matching.proofs.is_last.Goals as goal

pub returns-then-k-eq0 : goal.returns-then-k-eq0
returns-then-k-eq0 c = sym (last_none _ _ _ c.if-k-eq0.true)

pub returns : goal.returns
returns c = last_is _ _ _ _ _ _ c.if-k-eq0.false c.requires.1 _ c.part.ensures _ c.have_same_text.ensures
