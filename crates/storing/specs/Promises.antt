-- What the public function of this crate promises. Assumes nothing.
use Rattle.std.specs.Prelude.{List, map, ℕ}
use Rattle.records.specs.Slot.{slot_of}
use Rattle.slots.specs.Slots.{slots_in, records}
use Rattle.taken.specs.Taken.{taken_in}
use Rattle.holdings.specs.Holdings.{stored_all}
use Rattle.upkeep.specs.Holds.{Holds}

-- the register after it holds the records of the taken lines too, stored one after the other
abbrev pub StoreAll : List ℕ → List ℕ → ℕ → List ℕ → List ℕ → List ℕ → Type 0
StoreAll b lines width vs stamp after =
    Holds (slots_in b) (stored_all (records b) (map (slot_of stamp) (taken_in width vs lines))) after
