-- What each public function of this crate promises. Assumes nothing.
use Rattle.std.specs.Prelude.{◌≡◌, Bool, Option, List, ℕ, drop}
use Rattle.std.specs.List.{position}
use Rattle.keys.specs.declared.keyed.KeyedParts.{KeyedParts}
use Rattle.slots.specs.Slots.{slots_in, slots_of, pans, marked, records, used_in, used_part}
use Rattle.slots.specs.Search.{holds_pan, of_actor, held_by_another, count_of}

abbrev pub Slots : List ℕ → List (List ℕ) → Type 0
Slots b r = r ≡ slots_of b

-- the records, and the slots behind them
abbrev pub Split : List ℕ → List (List ℕ) → List (List ℕ) → Type 0
Split b used rest = (used ≡ records b) × (rest ≡ drop (used_in b) (slots_of b))

abbrev pub IsMarked : List ℕ → Bool → Type 0
IsMarked s r = r ≡ marked s

abbrev pub UsedSlots : List ℕ → ℕ → Type 0
UsedSlots b r = r ≡ used_in b

abbrev pub UsedPart : List ℕ → List ℕ → Type 0
UsedPart b r = r ≡ used_part b

-- the place of the first slot with this PAN
abbrev pub Find : List ℕ → List ℕ → Option ℕ → Type 0
Find b pan r = r ≡ position (holds_pan pan) (slots_of b)

abbrev pub IsOf : List ℕ → List ℕ → Bool → Type 0
IsOf s who r = r ≡ of_actor who s

abbrev pub IsHeldByAnother : List ℕ → List ℕ → List ℕ → Bool → Type 0
IsHeldByAnother b pan who r = r ≡ held_by_another pan who (slots_of b)

abbrev pub CountOf : List ℕ → List ℕ → ℕ → Type 0
CountOf b who r = r ≡ count_of who (slots_of b)

-- the slots, each by its PAN
abbrev pub ByPan : List ℕ → KeyedParts → Type 0
ByPan b r = (r.block.now ≡ b) × (r.keys ≡ pans) × (r.count ≡ slots_in b)
