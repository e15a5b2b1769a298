use native.Mathlib.Omega.{arith}
use Rattle.records.proofs.Laws.{dated, slot_written}
use Rattle.records.specs.laws.Written.{length_record}
use Rattle.records.proofs.fill_slot.Goals as goal

pub fill_record-requires : goal.fill_record-requires
fill_record-requires c =
    let p = c.requires in
    (omega arith, (p.1.0, dated _ _ c.reception-reception.ensures p.1.1))

pub returns : goal.returns
returns c =
    let p = c.requires in
    let r = c.reception-reception.ensures in
    let e = c.fill_record.ensures in
    slot_written _ _ _ c.args.slot.now _ _ p.0 p.1.1 r (rw e (length_record _ _ p.1.0 (dated _ _ r p.1.1))) e c.put_field.ensures
