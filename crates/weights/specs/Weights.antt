-- The limits that L10 sets a line's weight by its tariff. A weight is written as a code of four digits, and 0000 is missing.
-- Assumes nothing.
use Rattle.std.specs.Prelude.{ℕ, Bool, true, not, ◌&&◌, ◌||◌, List, [], ◌∷◌, eqb, leb}
use Rattle.numbers.specs.Number.{number}
use Rattle.columns.specs.Columns.{tariff, weight}

-- a tariff, and the least and the most code that it allows
pub record Limit : Type 0 where
  pub tariff : ℕ
  pub least : ℕ
  pub most : ℕ

infix 18 ◌from◌to◌
abbrev pub ◌from◌to◌ : ℕ → ℕ → ℕ → Limit
t from least to most = record { tariff = t; least = least; most = most }

-- 12 and 22 at most 0349; 31 and 32 at least 0350; 41 from 0350 to 1199; 51 at least 1200; 63 and 71 have no limit
unfoldable pub limits : List Limit
limits =
    (12 from 0 to 349)
    ∷ (22 from 0 to 349)
    ∷ (31 from 350 to 9999)
    ∷ (32 from 350 to 9999)
    ∷ (41 from 350 to 1199)
    ∷ (51 from 1200 to 9999)
    ∷ []

-- a limit asks something of its own tariff alone
unfoldable pub meets : Limit → ℕ → ℕ → Bool
meets r t w = not (eqb t r.tariff) || (leb r.least w && leb w r.most)

unfoldable pub meets_each : List Limit → ℕ → ℕ → Bool
meets_each [] t w = true
meets_each (r ∷ rs) t w = meets r t w && meets_each rs t w

-- 0000 is missing, and meets every limit
unfoldable pub missing : ℕ → Bool
missing w = eqb w 0

-- tariff t allows the code w
unfoldable pub allows : ℕ → ℕ → Bool
allows t w = missing w || meets_each limits t w

-- the tariff (46-47) allows the weight (97-100)
unfoldable pub weight_holds : List ℕ → Bool
weight_holds l = allows (number (tariff l)) (number (weight l))
