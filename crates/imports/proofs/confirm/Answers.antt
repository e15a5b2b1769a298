use Rattle.imports.proofs.Laws.{local_fits}
use Rattle.imports.proofs.confirm.Goals as goal

pub write_local-requires : goal.write_local-requires
write_local-requires c = local_fits _ _ c.requires.timed
