-- What the provider's functions called from Rust promise: that of `read_back` and `update`, by the number returned and the
-- two numbers written. Assumes nothing.
use Rattle.std.specs.Prelude.{List, ℕ}
use Rattle.provider.specs.Counted.{Counted}
use Rattle.reading.specs.Promises.{ReadBack}
use Rattle.updating.specs.Sent.{Sent}
use Rattle.updating.specs.Promises.{Update}

-- the three numbers as both answer them
abbrev pub counted_as : ℕ → ℕ → ℕ → Counted
counted_as number taken rejected = record { number = number; taken = taken; rejected = rejected }

abbrev pub GraftspindleReadBack : List ℕ → List ℕ → List ℕ → ℕ → ℕ → ℕ → List ℕ → Type 0
GraftspindleReadBack h g block number taken rejected v = ReadBack h g block (counted_as number taken rejected) v

abbrev pub GraftspindleUpdate : Sent → List ℕ → ℕ → ℕ → ℕ → List ℕ → Type 0
GraftspindleUpdate s copy number taken rejected b = Update s copy (counted_as number taken rejected) b
