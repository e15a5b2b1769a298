-- Two outcomes of one call are one: the numbers, and the register after the call. Assumes nothing.
use Rattle.std.specs.Prelude.{◌≡◌, List, ℕ}
use Rattle.sweeping.specs.laws.Outcomes.{sweep_one}
use Rattle.service_sweep.specs.Promises.{answered, GraftspindleSweep}

module _ (t register : List ℕ) (n n' k k' : ℕ) (b b' : List ℕ) where
  pub graftspindle_sweep_one : GraftspindleSweep t register n k b → GraftspindleSweep t register n' k' b' → (answered n k ≡ answered n' k') × (b ≡ b')
  graftspindle_sweep_one = sweep_one t register (answered n k) (answered n' k') b b'
