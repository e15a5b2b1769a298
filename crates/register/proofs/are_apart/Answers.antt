use native.Mathlib.Omega.{arith}
use Rattle.register.proofs.Laws.{used_few}
use Rattle.register.proofs.are_apart.Goals as goal

pub all_apart-requires : goal.all_apart-requires
all_apart-requires c = omega (arith, used_few _ _ c.used_part.ensures c.by_pan-used.result c.by_pan-used.ensures c.requires)
