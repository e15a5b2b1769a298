use Rattle.hgc.proofs.Laws.{counts_written}
use Rattle.hgc.proofs.put_counts.Goals as goal

pub returns : goal.returns
returns c =
    counts_written _ _ _ _ _ _ _ _ _ c.requires c.put_number.ensures c.put_number-2.ensures
    c.put_field.ensures c.put_zeros.ensures c.put_outcome.ensures
    c.put_field-2.ensures
