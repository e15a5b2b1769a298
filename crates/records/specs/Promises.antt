-- What each public function of this crate promises. Assumes nothing.
use Rattle.std.specs.Prelude.{◌≡◌, List, ℕ}
use Rattle.records.specs.Slot.{written, put_record}

-- the slot after it
abbrev pub WriteRecord : List ℕ → List ℕ → List ℕ → List ℕ → Type 0
WriteRecord slot line stamp after = after ≡ written stamp line slot

-- the register after it
abbrev pub PutRecord : List ℕ → ℕ → List ℕ → List ℕ → List ℕ → Type 0
PutRecord register i line stamp after = after ≡ put_record i stamp line register
