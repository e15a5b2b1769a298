-- The invariant: the first i lines have their verdicts, and the flags say which PANs are named.
use lib.ListN.{length}
use Rattle.slots.specs.Slots.{slots_of}
use Rattle.flagging.proofs.Laws.{Walking}
use Rattle.flagging.proofs.judge_flagged.Given as goal

abbrev pub invariant-loop-i : goal.invariant-loop-i
invariant-loop-i l = Walking l.basis.rows.now l.basis.sender.now (slots_of l.basis.held.now) l.lines.width l.lines.block.now (length l.initial.verdicts) l.i l.flags l.verdicts
