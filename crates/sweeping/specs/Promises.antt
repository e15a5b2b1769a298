-- What the public function of this crate promises. Assumes nothing.
use Rattle.std.specs.Prelude.{◌≡◌, List, ℕ}
use Rattle.sweeping.specs.Swept.{Swept}
use Rattle.sweeping.specs.Sweep.{sweep_answer, register_swept}

-- of a register, at a time: the answer, and the register after it
unfoldable pub Sweep : List ℕ → List ℕ → Swept → List ℕ → Type 0
Sweep t register r b =
    (r ≡ sweep_answer t register)
    × (b ≡ register_swept t register)
