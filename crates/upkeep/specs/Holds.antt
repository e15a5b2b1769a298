-- A register of n slots that is in order and holds these records. Assumes nothing.
use Rattle.std.specs.Prelude.{◌≡◌, true, List, ℕ, length}
use Rattle.theory.specs.Join.{flat}
use Rattle.theory.specs.Pad.{pad}
use Rattle.sizes.specs.Sizes.{slot_length}
use Rattle.slots.specs.Slots.{slots_in, records}
use Rattle.register.specs.Register.{in_order}

-- b has n slots, is in order and holds the records R
pub record Holds (n : ℕ) (R : List (List ℕ)) (b : List ℕ) : Type 0 where
  pub order : in_order b ≡ true
  pub held : records b ≡ R
  pub bytes : b ≡ flat (pad slot_length n R)
  pub many : slots_in b ≡ n

-- it does, and `used` counts them
pub record Left (n : ℕ) (R : List (List ℕ)) (b : List ℕ) (used : ℕ) : Type 0 where
  pub holds : Holds n R b
  pub counted : used ≡ length R
