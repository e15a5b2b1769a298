-- A provider's own records, in our order. Assumes nothing.
use Rattle.std.specs.Prelude.{List, ℕ}
use Rattle.theory.specs.Keep.{sift}
use Rattle.slots.specs.Search.{of_actor}

-- the records of a provider, in our order
unfoldable pub own : List ℕ → List (List ℕ) → List (List ℕ)
own who R = sift (of_actor who) R
