use Rattle.applying.proofs.Laws.{can_store, applied}
use Rattle.applying.proofs.apply.Goals as goal

pub returns : goal.returns
returns c =
    applied _ _ _ _ _ _ _ _ c.requires.ordered c.requires.kept c.requires.fit c.requires.sought _ _ c.prepare-used.ensures _ c.told_below-told.ensures _ c.write_stamp.ensures _ c.store_all.ensures

pub store_all-requires : goal.store_all-requires
store_all-requires c =
    record { lined = c.requires.lined; storing = can_store _ _ _ _ _ _ _ _ c.requires.ordered c.requires.kept c.requires.fit c.requires.sought _ _ c.prepare-used.ensures _ c.told_below-told.ensures _ c.write_stamp.ensures }
