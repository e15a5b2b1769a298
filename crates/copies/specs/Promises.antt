-- What the public function of this crate promises. Assumes nothing.
use Rattle.std.specs.Prelude.{◌≡◌, List, ℕ}
use Rattle.theory.specs.First.{first}
use Rattle.copies.specs.Copy.{copy_stops}

-- the first of the stops 21, 23, 25 to 29, 51, 30 to 32
abbrev pub CopyStop : ℕ → List ℕ → List ℕ → ℕ → Type 0
CopyStop mode copy h r = r ≡ first (copy_stops mode copy h)
