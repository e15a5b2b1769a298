use Rattle.records.proofs.Laws.{no_slot, put_slot}
use Rattle.records.proofs.put_record.Goals as goal

pub returns-then-register-i : goal.returns-then-register-i
returns-then-register-i c = no_slot _ _ _ _ c.if-register-i.true

pub returns : goal.returns
returns c = put_slot _ _ _ _ c.if-register-i.false _ c.write_record.ensures
