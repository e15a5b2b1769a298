use native.Mathlib.Omega.{arith}
use mathlib.Core.Path.{ap, ◌∙◌}
use lib.ListN.{length}
use Rattle.hgc.specs.laws.Confirmation.{length_text}
use Rattle.hgc.proofs.Laws.{answer_written}
use Rattle.hgc.proofs.put_answer.Goals as goal

pub put_field-requires-2 : goal.put_field-requires-2
put_field-requires-2 c =
    let n = ap length c.field-text.ensures ∙ length_text _ _ c.requires.1.1 in (omega arith, omega (arith, n))

pub returns : goal.returns
returns c =
    let p = c.requires in
    answer_written _ _ _ _ _ _ _ _ _ _ p.0 p.1.0 p.1.1 c.field-text.ensures c.put_field.ensures c.put_field-2.ensures
    (rw c.from.ensures at c.put_number.ensures) c.put_field-3.ensures
