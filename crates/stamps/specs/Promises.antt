-- What each public function of this crate promises. Assumes nothing.
use Rattle.std.specs.Prelude.{◌≡◌, Bool, List, ℕ}
use Rattle.stamps.specs.Stamp.{reception_in, stamp, stamp_holds}

abbrev pub Reception : List ℕ → List ℕ → Type 0
Reception s r = r ≡ reception_in s

abbrev pub IsStamp : List ℕ → List ℕ → Bool → Type 0
IsStamp s who r = r ≡ stamp_holds who s

-- the text after it
abbrev pub WriteStamp : List ℕ → List ℕ → List ℕ → List ℕ → Type 0
WriteStamp _ list reception after = after ≡ stamp list reception
