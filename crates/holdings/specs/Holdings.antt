-- What the register then holds: the records that follow when taken lines, in file order, are applied to those held.
-- Assumes nothing.
use Rattle.std.specs.Prelude.{ℕ, Bool, true, false, not, cond, List, [], ◌∷◌, ◌++◌, map}
use Rattle.theory.specs.Keep.{sift}
use Rattle.columns.specs.Columns.{pan_of}
use Rattle.sizes.specs.Modes.{is_full}
use Rattle.slots.specs.Search.{holds_pan, of_actor}

-- x in place of r where the test holds, else r, and what is made of those behind it
unfoldable pub stored_on : Bool → List ℕ → List ℕ → List (List ℕ) → List (List ℕ) → List (List ℕ)
stored_on true x r R S = x ∷ R
stored_on false x r R S = r ∷ S

-- a PAN already held is replaced in its slot, a new one takes the next free slot
unfoldable pub stored : List ℕ → List (List ℕ) → List (List ℕ)
stored x [] = x ∷ []
stored x (r ∷ R) = stored_on (holds_pan (pan_of x) r) x r R (stored x R)

-- mode 1: one after the other
unfoldable pub stored_all : List (List ℕ) → List (List ℕ) → List (List ℕ)
stored_all R [] = R
stored_all R (x ∷ xs) = stored_all (stored x R) xs

-- the records of all but this actor
unfoldable pub others : List ℕ → List (List ℕ) → List (List ℕ)
others who R = sift (λ r. not (of_actor who r)) R

-- mode 2: first the sender's records go, the others close up in order, then the taken lines follow
unfoldable pub replaced_all : List ℕ → List (List ℕ) → List (List ℕ) → List (List ℕ)
replaced_all who R xs = others who R ++ xs

-- the records after the lines of this sender were taken, of which `make` makes the records
unfoldable pub holdings : ℕ → List ℕ → (List ℕ → List ℕ) → List (List ℕ) → List (List ℕ) → List (List ℕ)
holdings mode who make R ls = cond (is_full mode) (replaced_all who R (map make ls)) (stored_all R (map make ls))
