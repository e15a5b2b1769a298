use Rattle.storing.proofs.Storing.{ready_most, slot_told, put_line}
use Rattle.storing.proofs.store.Goals as goal

pub next_used-requires : goal.next_used-requires
next_used-requires c = ready_most _ _ _ _ _ c.requires.ready

pub returns : goal.returns
returns c =
    put_line _ _ _ _ c.requires.ready _ (slot_told _ _ c.requires.ready.counted _ _ _ c.requires.placed _ c.place_or_next-slot.ensures) _ c.put_record.ensures _ c.next_used.ensures
