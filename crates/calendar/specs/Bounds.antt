-- What the six numbers of a real moment are within. Assumes nothing.
use Rattle.std.specs.Prelude.{ℕ, ◌≤◌}
use Rattle.calendar.specs.Calendar.{days_in}

pub record Bounds (y m d h i s : ℕ) : Type 0 where
  pub year : (1 ≤ y) × (y ≤ 9999)
  pub month : (1 ≤ m) × (m ≤ 12)
  pub day : (1 ≤ d) × (d ≤ days_in y m)
  pub hour : h ≤ 23
  pub minute : i ≤ 59
  pub second : s ≤ 59
