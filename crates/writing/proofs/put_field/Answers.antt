use mathlib.Core.Path.{refl}
use Rattle.writing.specs.laws.Put.{put_lent}
use Rattle.writing.proofs.put_field.Goals as goal

pub returns : goal.returns
returns c = put_lent _ _ _ _ _ c.copy.ensures refl
