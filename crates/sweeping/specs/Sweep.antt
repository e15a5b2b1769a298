-- "A sweep at a time T removes every record whose end is not zeros and not later than T, closes up the rest in order and says how many
-- went. Refusals: 22, then 23, register unchanged." For every register and every time, of every length. Assumes nothing.
use Rattle.std.specs.Prelude.{Bool, not, ◌&&◌, List, [], ◌∷◌, ℕ, length}
use Rattle.theory.specs.First.{Rule, ◌if◌, first}
use Rattle.theory.specs.Stopped.{unless_stopped}
use Rattle.theory.specs.Every.{run}
use Rattle.theory.specs.Keep.{sift}
use Rattle.theory.specs.Join.{flat}
use Rattle.theory.specs.Pad.{pad}
use Rattle.sizes.specs.Sizes.{time_length, slot_length}
use Rattle.fields.specs.Field.{zero_digit}
use Rattle.times.specs.Time.{real_time}
use Rattle.times.specs.Order.{earlier}
use Rattle.columns.specs.Columns.{valid_to}
use Rattle.slots.specs.Slots.{slots_in, records}
use Rattle.register.specs.Register.{in_order}
use Rattle.sweeping.specs.Swept.{Swept}

-- a record whose end is not zeros and not later than t
unfoldable pub ended : List ℕ → List ℕ → Bool
ended t r = not (run zero_digit time_length (valid_to r)) && not (earlier t (valid_to r))

-- those that go
unfoldable pub going : List ℕ → List (List ℕ) → List (List ℕ)
going t R = sift (ended t) R

-- the rest, in order
unfoldable pub staying : List ℕ → List (List ℕ) → List (List ℕ)
staying t R = sift (λ r. not (ended t r)) R

-- 22, then 23
unfoldable pub sweep_stops : List ℕ → List ℕ → List Rule
sweep_stops t b = (22 if not (real_time t)) ∷ (23 if not (in_order b)) ∷ []

-- the number answered: the first that holds, 0 for success
unfoldable pub sweep_number : List ℕ → List ℕ → ℕ
sweep_number t b = first (sweep_stops t b)

-- and how many went; a refusal says 0
unfoldable pub sweep_answer : List ℕ → List ℕ → Swept
sweep_answer t b = let n : ℕ = sweep_number t b in record { number = n; removed = unless_stopped n (length (going t (records b))) 0 }

-- the rest closed up, and free slots behind it: as many slots as before
unfoldable pub swept_bytes : List ℕ → List ℕ → List ℕ
swept_bytes t b = flat (pad slot_length (slots_in b) (staying t (records b)))

unfoldable pub register_swept : List ℕ → List ℕ → List ℕ
register_swept t b = unless_stopped (sweep_number t b) (swept_bytes t b) b
