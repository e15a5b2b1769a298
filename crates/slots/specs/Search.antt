-- What is looked for in a block of slots: a PAN, a PAN under another actor (L11), an actor's records. Assumes nothing.
use Rattle.std.specs.Prelude.{ℕ, Bool, not, ◌&&◌, List, length}
use Rattle.theory.specs.Same.{eqs}
use Rattle.theory.specs.Walk.{some}
use Rattle.theory.specs.Keep.{sift}
use Rattle.theory.specs.Place.{place}
use Rattle.columns.specs.Columns.{actor, pan_of}

unfoldable pub holds_pan : List ℕ → List ℕ → Bool
holds_pan pan r = eqs (pan_of r) pan

-- the place of the first record with this PAN, or their number
unfoldable pub place_of : List ℕ → List (List ℕ) → ℕ
place_of pan R = place (holds_pan pan) R

-- a record of this actor
unfoldable pub of_actor : List ℕ → List ℕ → Bool
of_actor who r = eqs (actor r) who

-- a record with this PAN under another actor
unfoldable pub holds_foreign : List ℕ → List ℕ → List ℕ → Bool
holds_foreign pan who r = holds_pan pan r && not (of_actor who r)

-- L11 is broken where the register holds the line's PAN under another actor
unfoldable pub held_by_another : List ℕ → List ℕ → List (List ℕ) → Bool
held_by_another pan who R = some (holds_foreign pan who) R

unfoldable pub count_of : List ℕ → List (List ℕ) → ℕ
count_of who R = length (sift (of_actor who) R)
