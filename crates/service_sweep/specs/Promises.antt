-- What the sweep called from Rust promises: that of `sweep`, by the number returned and the number written. Assumes nothing.
use Rattle.std.specs.Prelude.{List, ℕ}
use Rattle.sweeping.specs.Swept.{Swept}
use Rattle.sweeping.specs.Promises.{Sweep}

-- the two numbers as `sweep` answers them
abbrev pub answered : ℕ → ℕ → Swept
answered number removed = record { number = number; removed = removed }

abbrev pub GraftspindleSweep : List ℕ → List ℕ → ℕ → ℕ → List ℕ → Type 0
GraftspindleSweep t register number removed b = Sweep t register (answered number removed) b
