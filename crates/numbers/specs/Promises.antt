-- What each public function of this crate promises. Assumes nothing.
use Rattle.std.specs.Prelude.{◌≡◌, List, ℕ}
use Rattle.writing.specs.Put.{put_field}
use Rattle.numbers.specs.Number.{number, decimal, zeros}

abbrev pub Number : List ℕ → ℕ → Type 0
Number f r = r ≡ number f

-- the text after it
abbrev pub PutNumber : List ℕ → ℕ → ℕ → ℕ → List ℕ → Type 0
PutNumber text from width v after = after ≡ put_field from (decimal width v) text

-- the text after it
abbrev pub PutZeros : List ℕ → ℕ → ℕ → List ℕ → Type 0
PutZeros text from n after = after ≡ put_field from (zeros n) text
