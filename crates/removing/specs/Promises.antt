-- What each public function of this crate promises. Assumes nothing.
use Rattle.std.specs.Prelude.{Bool, not, List, ℕ}
use Rattle.theory.specs.Keep.{sift}
use Rattle.theory.specs.Pick.{good, pick}
use Rattle.slots.specs.Slots.{slots_in, records}
use Rattle.holdings.specs.Holdings.{others}
use Rattle.upkeep.specs.Holds.{Left}

-- the register after it holds the records marked 0, and r counts them
abbrev pub RemoveMarked : List ℕ → List ℕ → ℕ → List ℕ → Type 0
RemoveMarked b marks r after = Left (slots_in b) (pick good marks (records b)) after r

-- it holds the records for which the test does not hold
abbrev pub RemoveWhere : (List ℕ → Bool) → List ℕ → ℕ → List ℕ → Type 0
RemoveWhere p b r after = Left (slots_in b) (sift (λ x. not (p x)) (records b)) after r

-- it holds those of the others
abbrev pub RemoveOf : List ℕ → List ℕ → ℕ → List ℕ → Type 0
RemoveOf b who r after = Left (slots_in b) (others who (records b)) after r
