use Rattle.texts.specs.laws.Field.{field_short}
use Rattle.hgv.specs.laws.Layout.{is_width}
use Rattle.pairing.specs.laws.Telling.{told_taken}
use Rattle.reading.proofs.Laws.{reason_fits, reason_told}
use Prim.Native.Nat.{◌<◌}
use native.Mathlib.Omega.{arith}
use Rattle.reading.proofs.verdict_at.Goals as goal

pub returns-then-mark-eq0 : goal.returns-then-mark-eq0
returns-then-mark-eq0 c = told_taken _ _ _ c.if-mark-eq0.true

pub part-requires : goal.part-requires
part-requires c = omega (arith, c.requires.1 c.if-mark-eq0.false)

pub field-reason-requires : goal.field-reason-requires
field-reason-requires c = let w = rw (← c.width-from.ensures) at (is_width c.args.hgv.now).0 in (omega arith, omega arith)

pub number-requires : goal.number-requires
number-requires c = field_short _ _ 15 _ _ c.field-reason.ensures (omega arith)

pub overflow_cast-result : goal.overflow_cast-result
overflow_cast-result c =
    let p = c.requires in
    let l : c.args.k < c.lines-lines.result.count = omega (arith, p.1 c.if-mark-eq0.false) in
    omega (arith, reason_fits _ _ c.lines-lines.result c.lines-lines.ensures _ l _ _ _ c.part.ensures c.width-from.ensures c.field-reason.ensures _ c.number.ensures p.0)

pub returns : goal.returns
returns c =
    let n = c.if-mark-eq0.false in
    let l : c.args.k < c.lines-lines.result.count = omega (arith, c.requires.1 n) in
    reason_told _ _ c.lines-lines.result c.lines-lines.ensures _ l _ _ _ c.part.ensures c.width-from.ensures c.field-reason.ensures _ c.number.ensures _ n
