-- The invariant: what is left decides.
use Rattle.theory.specs.laws.Walk.{EachFrom}
use Rattle.hgv.specs.Layout.{width_of}
use Rattle.receipts.specs.Receipt.{answer_form, reason_holds}
use mathlib.Core.Bool.{◌&&◌}
use Rattle.receipts.proofs.each_is_answer.Given as goal

abbrev pub invariant-loop-i : goal.invariant-loop-i
invariant-loop-i l = EachFrom (λ a. answer_form (width_of l.hgv) a && reason_holds (width_of l.hgv) a) l.lines.width l.lines.count l.lines.block.now l.i
