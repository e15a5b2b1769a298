use mathlib.Core.Path.{◌∙◌}
use Rattle.offsets.specs.Offset.{utc}
use Rattle.offsets.specs.laws.Moved.{moved_written, utc_moved}
use Rattle.offsets.proofs.write_utc.Goals as goal

pub write-requires : goal.write-requires
write-requires c =
    rw (c.utc_time.ensures, utc_moved c.args.offset.ahead _) (moved_written _ _ _ (rw (utc_moved c.args.offset.ahead _) at c.requires))

pub returns : goal.returns
unfolding utc
returns c = c.write.ensures ∙ rw c.utc_time.ensures
