-- What the writer is given beside its buffer. Assumes nothing.
use Rattle.std.specs.Prelude.{ℕ, List}

-- the version, the sender, the list's date and its number within the day, the previous list, the creation, the issuer rows, the
-- accounts
pub record Given : Type 0 where
  pub version : ℕ
  pub sender : List ℕ
  pub date : List ℕ
  pub number : ℕ
  pub previous : List ℕ
  pub creation : List ℕ
  pub rows : List ℕ
  pub accounts : List ℕ

-- as the call has them
abbrev pub given : ℕ → List ℕ → List ℕ → ℕ → List ℕ → List ℕ → List ℕ → List ℕ → Given
given version sender date number previous creation rows accounts =
    record { version = version; sender = sender; date = date; number = number; previous = previous; creation = creation; rows = rows; accounts = accounts }
