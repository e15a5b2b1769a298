use Rattle.accounts.proofs.Laws.{end_written}
use Rattle.accounts.proofs.put_end.Goals as goal

pub returns : goal.returns
returns c =
    end_written _ _ _ c.requires c.told-a _ _ _ _ c.put_column.ensures c.put_column-2.ensures c.put_field.ensures c.put_field-2.ensures
