use Rattle.frames.proofs.Laws.{foot_written}
use Rattle.frames.proofs.put_foot.Goals as goal

pub returns : goal.returns
returns c =
    foot_written _ _ _ _ _ c.requires.0 c.requires.1 c.put_field.ensures
    c.put_zeros.ensures c.put_field-2.ensures
