use native.Mathlib.Omega.{arith}
use Rattle.hgc.proofs.Laws.{wide, names_written}
use Rattle.hgc.proofs.put_names.Goals as goal

pub put_field-requires-3 : goal.put_field-requires-3
put_field-requires-3 c =
    let n = wide 2 7 _ _ c.sender-sender.ensures (omega arith) (omega arith) in (omega arith, omega arith)

pub put_field-requires-4 : goal.put_field-requires-4
put_field-requires-4 c =
    let n = wide 14 32 _ _ c.list_sequence-sequence.ensures (omega arith) (omega arith) in (omega arith, omega arith)

pub returns : goal.returns
returns c =
    let p = c.requires in
    names_written _ _ _ _ _ _ _ _ _ _ p.0 p.1.0 p.1.1 c.sender-sender.ensures c.list_sequence-sequence.ensures
    c.put_field.ensures c.put_field-2.ensures c.put_field-3.ensures
    c.put_field-4.ensures c.put_field-5.ensures
