use Rattle.vectors.proofs.Laws.{kept_by}
use Rattle.vectors.proofs.keep.Goals as goal

pub returns : goal.returns
returns c = kept_by _ _ _ _ _ c.letter_of-letter.ensures c.field.ensures c.put_text.ensures
