-- The invariant: the lines taken from the place i on lead to the records that are to be held, and it is told where their
-- PANs stand.
use mathlib.Core.List.{map}
use lib.ListN.{length}
use Rattle.theory.specs.laws.Among.{taken_from}
use Rattle.records.specs.Slot.{slot_of}
use Rattle.slots.specs.Slots.{records, slots_in}
use Rattle.taken.specs.Taken.{taken_in}
use Rattle.holdings.specs.Holdings.{stored_all}
use Rattle.storing.specs.laws.Steps.{Storing}
use Rattle.storing.specs.laws.Standing.{Standing}
use Rattle.storing.proofs.store_all.Given as goal

abbrev pub invariant-loop-i : goal.invariant-loop-i
invariant-loop-i l =
    Storing l.stamp (slots_in l.initial.register) (stored_all (records l.initial.register) (map (slot_of l.stamp) (taken_in l.lines.width l.placed.verdicts.now l.lines.block.now))) (taken_from l.lines.width (length l.placed.verdicts.now) l.placed.verdicts.now l.lines.block.now l.i) l.register l.used
    × Standing l.lines.width l.placed.verdicts.now l.lines.block.now l.told (records l.register) l.placed.found.now l.i
