-- What the steps of storing ask and leave: line after line. Assumes nothing.
use Rattle.std.specs.Prelude.{◌≡◌, Bool, true, false, List, map, ℕ, ◌≤◌, length}
use Rattle.theory.specs.Each.{Each}
use Rattle.records.specs.Slot.{slot_of, storable}
use Rattle.slots.specs.Slots.{slots_in, records, used_in}
use Rattle.register.specs.Register.{in_order}
use Rattle.holdings.specs.Holdings.{stored, stored_all}

-- the records after x, where it was taken
unfoldable pub stored_if : Bool → List ℕ → List (List ℕ) → List (List ℕ)
stored_if true x R = stored x R
stored_if false x R = R

-- b, of which `used` slots are, can take the line l where `taken` says so
pub record Ready (taken : Bool) (stamp l b : List ℕ) (used : ℕ) : Type 0 where
  pub order : in_order b ≡ true
  pub counted : used ≡ used_in b
  pub line : taken ≡ true → storable stamp l ≡ true
  pub room : length (stored_if taken (slot_of stamp l) (records b)) ≤ slots_in b

-- b can take the lines ls, and holds the records `goal` once it has
pub record Storing (stamp : List ℕ) (n : ℕ) (goal ls : List (List ℕ)) (b : List ℕ) (used : ℕ) : Type 0 where
  pub order : in_order b ≡ true
  pub counted : used ≡ used_in b
  pub many : slots_in b ≡ n
  pub lined : Each (λ l. storable stamp l ≡ true) ls
  pub leads : stored_all (records b) (map (slot_of stamp) ls) ≡ goal
  pub room : length goal ≤ n
