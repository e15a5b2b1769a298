-- A record that is active at a time was active at every time before it: it ends once. Assumes nothing.
use Rattle.std.specs.Prelude.{◌≡◌, Bool, true, false, ◌||◌, List, ℕ}
use Rattle.theory.specs.Every.{run}
use Rattle.sizes.specs.Sizes.{time_length}
use Rattle.fields.specs.Field.{zero_digit}
use Rattle.times.specs.Order.{earlier}
use Rattle.times.specs.laws.Order.{since}
use Rattle.columns.specs.Columns.{valid_to}
use Rattle.lines.specs.End.{active}

pub active_since : (s t r : List ℕ) → earlier t s ≡ false → active t r ≡ true → active s r ≡ true
unfolding active
active_since s t r h k = go (run zero_digit time_length (valid_to r)) k
  where
    go : (z : Bool) → z || earlier t (valid_to r) ≡ true → z || earlier s (valid_to r) ≡ true
    go true e = e
    go false e = since s t (valid_to r) h e
