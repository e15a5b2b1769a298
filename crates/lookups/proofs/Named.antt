-- The places of the searches, in the words that docs/PORT.md names. Assumes nothing.
use mathlib.Core.Path.{◌≡◌, ◌∙◌}
use mathlib.Core.List.{List}
use Prim.Native.Nat.{ℕ}
use Rattle.theory.specs.Place.{place}
use Rattle.slots.specs.Slots.{slots_of, used_part}
use Rattle.slots.specs.Search.{place_of}
use Rattle.slots.specs.laws.Slots.{slots_used}
use Rattle.lookups.specs.Lookup.{pan_place, fits_plate, plate_place}

-- `used` is the used part, in which the PAN was looked for
module _ (b key used : List ℕ) (i : ℕ) (u : used ≡ used_part b) (f : i ≡ place_of key (slots_of used)) where
  pub pan_place_lem : i ≡ pan_place b key
  unfolding pan_place
  pan_place_lem = f ∙ rw (u, slots_used b)

-- `used` is the used part, which the walk went over
module _ (b p n t used : List ℕ) (u : used ≡ used_part b) where
  pub plate_place_lem : (i : ℕ) → i ≡ place (fits_plate p n t) (slots_of used) → i ≡ plate_place b p n t
  unfolding plate_place
  plate_place_lem i f = f ∙ rw (u, slots_used b)
