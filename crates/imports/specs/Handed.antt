-- What is handed over at an import beside the register. Assumes nothing.
use Rattle.std.specs.Prelude.{ℕ, List, ℤ}

-- the mode, the reception in UTC, the sender's offset (local minus UTC in minutes), the issuer rows, the HGV, the HGC's buffer
pub record Handed : Type 0 where
  pub mode : ℕ
  pub reception : List ℕ
  pub offset : ℤ
  pub rows : List ℕ
  pub hgv : List ℕ
  pub hgc : List ℕ

-- as the call has them
abbrev pub handed : ℕ → List ℕ → ℤ → List ℕ → List ℕ → List ℕ → Handed
handed mode reception offset rows hgv hgc = record { mode = mode; reception = reception; offset = offset; rows = rows; hgv = hgv; hgc = hgc }

-- the same, at another offset
abbrev pub at : ℤ → Handed → Handed
at o f = handed f.mode f.reception o f.rows f.hgv f.hgc
