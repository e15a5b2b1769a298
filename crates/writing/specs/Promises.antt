-- What each public function of this crate promises. Assumes nothing.
use Rattle.std.specs.Prelude.{◌≡◌, List, ℕ}
use Rattle.writing.specs.Put.{put_field}

-- the text after it
abbrev pub Copy : List ℕ → List ℕ → List ℕ → Type 0
Copy _ from after = after ≡ from

-- the text after it
abbrev pub PutField : List ℕ → ℕ → List ℕ → List ℕ → Type 0
PutField text from f after = after ≡ put_field from f text
