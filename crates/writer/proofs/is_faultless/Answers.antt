use mathlib.Core.Path.{refl, ◌∙◌}
use Rattle.writer.proofs.Laws.{ok_is, faultless_is}
use Rattle.writer.proofs.is_faultless.Goals as goal

pub returns : goal.returns
returns c =
    c.is_ok.ensures.value ∙ ok_is _ ∙ faultless_is _ _ _ _ _ _ c.put_line.ensures refl c.told-sender c.told-a c.line_fault.ensures
