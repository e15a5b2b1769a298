use native.Mathlib.Omega.{arith}
use Rattle.hgv.specs.laws.Layout.{length_least, width_has}
use Rattle.hgc.proofs.Laws.{foot_fits, written}
use Rattle.hgc.proofs.write.Goals as goal

pub put_names-requires : goal.put_names-requires
put_names-requires c = (omega arith, (c.requires.dated, omega (arith, length_least _ c.requires.sized)))

pub put_foot-requires : goal.put_foot-requires
put_foot-requires c =
    foot_fits _ _ _ _ _ _ _ c.lines.ensures.0 c.lines.ensures.1 c.put_answers-behind.ensures c.requires.judged _ _ c.requires.answered c.requires.room (omega arith)

pub returns : goal.returns
returns c =
    written _ _ _ _ _ _ _ c.lines.ensures.0 c.lines.ensures.1 c.put_answers-behind.ensures c.requires.judged _ _ _ _ _ _ c.requires.dated c.requires.sized c.requires.counted c.requires.answered c.requires.room
    c.put_names.ensures c.put_counts.ensures c.put_foot.ensures

pub put_answers-behind-requires-clause-wide : goal.put_answers-behind-requires-clause-wide
put_answers-behind-requires-clause-wide c = rw c.lines.ensures.1 (width_has _ 3 (omega arith))
