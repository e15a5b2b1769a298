use Rattle.storing.proofs.Storing.{line_left, line_ready, line_good, line_taken}
use Rattle.storing.proofs.take_line.Goals as goal

pub returns-then-verdict-ne0 : goal.returns-then-verdict-ne0
returns-then-verdict-ne0 c = line_left _ _ _ _ _ c.requires.ready c.if-verdict-ne0.true

pub returns : goal.returns
returns c = rw (← line_taken _ _ _ c.if-verdict-ne0.false) c.store.ensures

pub store-requires : goal.store-requires
store-requires c =
    record { ready = line_ready _ _ _ _ _ c.requires.ready c.if-verdict-ne0.false; placed = c.requires.placed (line_good _ c.if-verdict-ne0.false) }
