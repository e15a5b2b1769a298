use mathlib.Core.Path.{◌∙◌}
use Rattle.writing.specs.laws.Put.{put_ap}
use Rattle.numbers.specs.laws.Number.{decimal_zeros}
use Rattle.numbers.proofs.put_zeros.Goals as goal

pub returns : goal.returns
returns c = c.put_number.ensures ∙ put_ap _ _ (decimal_zeros _)
