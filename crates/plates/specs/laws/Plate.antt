-- The plate characters as a table of 256 entries. Assumes nothing.
use Rattle.std.specs.Prelude.{ℕ, cond, List}
use Rattle.theory.specs.Text.{byte}
use Rattle.theory.specs.Table.{table_of}
use Rattle.plates.specs.Plate.{allowed}

-- an entry is '1' where its place is a byte that a plate may hold, else '0'
unfoldable pub allowed_mark : ℕ → ℕ
allowed_mark b = cond (allowed b) (byte "1") (byte "0")

-- all 256 byte values
unfoldable pub allowed_table : List ℕ
allowed_table = table_of allowed_mark 256
