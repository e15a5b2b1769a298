use mathlib.Core.Path.{◌∙◌}
use Rattle.offsets.specs.Offset.{local}
use Rattle.offsets.specs.laws.Moved.{moved_written, local_moved}
use Rattle.offsets.proofs.write_local.Goals as goal

pub write-requires : goal.write-requires
write-requires c =
    rw (c.local_time.ensures, local_moved c.args.offset.ahead _) (moved_written _ _ _ (rw (local_moved c.args.offset.ahead _) at c.requires))

pub returns : goal.returns
unfolding local
returns c = c.write.ensures ∙ rw c.local_time.ensures
