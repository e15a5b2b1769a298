-- A block as slots, and the used ones, which come first. Every definition takes a block of any length. Assumes nothing.
use Rattle.std.specs.Prelude.{ℕ, ◌*◌, ◌/◌, Bool, List, length, take}
use Rattle.theory.specs.Text.{bytes}
use Rattle.theory.specs.Same.{eqs}
use Rattle.theory.specs.Parts.{chop}
use Rattle.theory.specs.Pad.{front}
use Rattle.sizes.specs.Sizes.{slot_length}
use Rattle.texts.specs.Field.{field}
use Rattle.keys.specs.declared.Keys.{Keys}

-- the number of slots
abbrev pub slots_in : List ℕ → ℕ
slots_in b = length b / slot_length

-- the slots
unfoldable pub slots_of : List ℕ → List (List ℕ)
slots_of b = chop slot_length (slots_in b) b

-- a slot with `1` in front is taken for a used one
unfoldable pub marked : List ℕ → Bool
marked s = eqs (field 1 1 s) (bytes "1")

-- the records: the used slots, which come first
unfoldable pub records : List ℕ → List (List ℕ)
records b = front marked (slots_of b)

-- how many there are
abbrev pub used_in : List ℕ → ℕ
used_in b = length (records b)

-- the used slots, one behind the other
unfoldable pub used_part : List ℕ → List ℕ
used_part b = take (used_in b * slot_length) b

-- where the PAN stands in a slot
abbrev pub pans : Keys
pans = record { width = slot_length; from = 14; to = 32 }
