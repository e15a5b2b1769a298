-- The invariant: the first i lines have their verdicts.
use mathlib.Core.Path.{◌≡◌}
use lib.ListN.{length}
use Rattle.theory.specs.laws.Scan.{Judged}
use Rattle.slots.specs.Slots.{slots_of}
use Rattle.verdicts.specs.Verdict.{verdict}
use Rattle.verdicts.proofs.judge_lines.Given as goal

abbrev pub invariant-loop-i : goal.invariant-loop-i
invariant-loop-i l = (length l.verdicts ≡ length l.initial.verdicts) × Judged (verdict l.basis.rows.now l.basis.sender.now (slots_of l.basis.held.now)) l.lines.width l.lines.block.now l.i l.verdicts
