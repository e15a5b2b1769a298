use Rattle.stamps.proofs.Laws.{stamp_written}
use Rattle.stamps.proofs.write_stamp.Goals as goal

pub returns : goal.returns
returns c =
    stamp_written _ _ _ _ _ _ c.requires.sized c.requires.listed c.requires.dated c.put_field.ensures c.put_field-2.ensures c.put_field-3.ensures
