use native.Mathlib.Omega.{arith}
use Rattle.records.proofs.Laws.{wide, record_written}
use Rattle.records.proofs.fill_record.Goals as goal

pub put_field-requires-2 : goal.put_field-requires-2
put_field-requires-2 c =
    let n = wide 2 100 _ _ c.field-front.ensures c.requires.1.0 (omega arith) (omega arith) in (omega arith, omega arith)

pub put_end-requires : goal.put_end-requires
put_end-requires c =
    let n = wide 101 114 _ _ c.of-given.ensures c.requires.1.0 (omega arith) (omega arith) in (omega arith, (omega arith, omega arith))

pub put_field-requires-3 : goal.put_field-requires-3
put_field-requires-3 c =
    let n = wide 115 127 _ _ c.field-rest.ensures c.requires.1.0 (omega arith) (omega arith) in (omega arith, omega arith)

pub returns : goal.returns
returns c =
    let p = c.requires in
    record_written _ _ _ _ _ _ _ _ _ _ _ p.0 p.1.0 p.1.1 c.field-front.ensures c.of-given.ensures c.field-rest.ensures
    c.put_field.ensures c.put_field-2.ensures c.put_end.ensures
    c.put_field-3.ensures c.put_field-4.ensures
