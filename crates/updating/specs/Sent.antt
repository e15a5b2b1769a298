-- What a provider has of an accepted import of his. Assumes nothing.
use Rattle.std.specs.Prelude.{ℕ, List, ℤ}

-- the mode, his offset when it was imported (local minus UTC in minutes), his HGV, and the HGC
pub record Sent : Type 0 where
  pub mode : ℕ
  pub offset : ℤ
  pub hgv : List ℕ
  pub hgc : List ℕ

-- as the call has them
abbrev pub sent : ℕ → ℤ → List ℕ → List ℕ → Sent
sent mode offset hgv hgc = record { mode = mode; offset = offset; hgv = hgv; hgc = hgc }
