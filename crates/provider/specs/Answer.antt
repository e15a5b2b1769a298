-- What the provider's functions answer: their number, and how many lines were taken and rejected. h is the HGV, g the HGC.
-- Assumes nothing.
use Rattle.std.specs.Prelude.{ℕ, List, length}
use Rattle.answers.specs.Layout.{answers_in}
use Rattle.receipts.specs.Receipt.{taken_by}
use Rattle.provider.specs.Counted.{Counted}

-- a stop has zero counts
unfoldable pub stop_counts : ℕ → Counted
stop_counts number = record { number = number; taken = 0; rejected = 0 }

-- success has 0 and the two counts
unfoldable pub success_counts : List ℕ → List ℕ → Counted
success_counts h g = record { number = 0; taken = length (taken_by h g); rejected = answers_in h g }
