-- What a doubled digit counts, as a table of the ten digits. Assumes nothing.
use Rattle.std.specs.Prelude.{ℕ, List}
use Rattle.theory.specs.Table.{table_of}
use Rattle.pans.specs.Pan.{doubled}

unfoldable pub doubled_table : List ℕ
doubled_table = table_of doubled 10
