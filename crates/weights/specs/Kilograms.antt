-- What a weight's code stands for, and the weights that a tariff prices, in kilograms. Assumes nothing.
use Rattle.std.specs.Prelude.{◌≡◌, ℕ, ◌+◌, ◌*◌, ◌<◌, ◌≤◌}

-- code w above 0 covers 10w + 1 to 10w + 10 kg
pub record Covers (w kg : ℕ) : Type 0 where
  pub above : 10 * w < kg
  pub most : kg ≤ 10 * w + 10

-- a vehicle of so many kilograms is of the tariff's class (AP-3.1 v3.0, 4.1): 12 and 22 at most 3,500; 31 and 32 above 3,500; 41 above
-- 3,500 up to 12,000; 51 above 12,000; 63 and 71 of any weight
pub record InClass (t kg : ℕ) : Type 0 where
  pub of_12 : t ≡ 12 → kg ≤ 3500
  pub of_22 : t ≡ 22 → kg ≤ 3500
  pub of_31 : t ≡ 31 → 3500 < kg
  pub of_32 : t ≡ 32 → 3500 < kg
  pub of_41 : t ≡ 41 → (3500 < kg) × (kg ≤ 12000)
  pub of_51 : t ≡ 51 → 12000 < kg

-- every weight that the code covers is of the tariff's class
abbrev pub CoversClass : ℕ → ℕ → Type 0
CoversClass t w = (kg : ℕ) → Covers w kg → InClass t kg
