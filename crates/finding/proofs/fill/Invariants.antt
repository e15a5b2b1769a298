use Rattle.keys.specs.Keys.{parts_of, key_of}
use lib.ListN.{length}
use Rattle.finding.specs.Places.{place_for}
use Rattle.finding.proofs.Laws.{Filled}
use Rattle.finding.proofs.fill.Given as goal

abbrev pub invariant-loop-i : goal.invariant-loop-i
invariant-loop-i g l =
    let parts = g.S.Search.parts l.among in
    Filled (place_for (key_of parts.keys) (parts_of parts.keys parts.count parts.block.now) (key_of l.lines.parts.keys) l.lines.parts.keys.width l.lines.parts.block.now l.lines.marks.now) (length l.initial.found) l.i l.found
