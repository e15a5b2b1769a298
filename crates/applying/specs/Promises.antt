-- What the public function of this crate promises. Assumes nothing.
use Rattle.std.specs.Prelude.{List, ℕ}
use Rattle.stamps.specs.Stamp.{stamp}
use Rattle.records.specs.Slot.{slot_of}
use Rattle.slots.specs.Slots.{slots_in, records}
use Rattle.taken.specs.Taken.{taken_in}
use Rattle.holdings.specs.Holdings.{holdings}
use Rattle.upkeep.specs.Holds.{Holds}

-- the register after it holds what follows
abbrev pub Apply : ℕ → List ℕ → List ℕ → List ℕ → List ℕ → List ℕ → ℕ → List ℕ → List ℕ → Type 0
Apply mode b who list reception lines width vs after =
    Holds (slots_in b) (holdings mode who (slot_of (stamp list reception)) (records b) (taken_in width vs lines)) after
