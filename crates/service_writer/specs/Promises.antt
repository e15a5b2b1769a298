-- What the writer called from Rust promises: that of `write_hgv`, by the number returned and the length written. Assumes nothing.
use Rattle.std.specs.Prelude.{List, ℕ}
use Rattle.writer.specs.Given.{Given}
use Rattle.writer.specs.Promises.{WriteHgv}

abbrev pub GraftspindleWrite : Given → List ℕ → ℕ → ℕ → List ℕ → Type 0
GraftspindleWrite g out number length after = WriteHgv g out (record { number = number; length = length }) after
