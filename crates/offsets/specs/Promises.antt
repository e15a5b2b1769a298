-- What each public function of this crate promises. Assumes nothing.
use Rattle.std.specs.Prelude.{◌≡◌, Bool, List, ℕ, ℤ}
use Rattle.times.specs.Seconds.{is_real}
use Rattle.offsets.specs.Offset.{offset_holds, utc_time, local, utc, reception_holds}
use Rattle.offsets.specs.Ahead.{ahead_of, offset_of}

abbrev pub IsOffset : ℤ → Bool → Type 0
IsOffset o r = r ≡ offset_holds o

abbrev pub Ahead : ℤ → ℕ → Type 0
Ahead o r = r ≡ ahead_of o

abbrev pub HasLocal : ℤ → List ℕ → Bool → Type 0
HasLocal o t r = r ≡ reception_holds o t

abbrev pub HasUtc : ℕ → List ℕ → Bool → Type 0
HasUtc a t r = r ≡ is_real (utc_time (offset_of a) t)

-- the text after it
abbrev pub WriteLocal : List ℕ → ℕ → List ℕ → List ℕ → Type 0
WriteLocal _ a t after = after ≡ local (offset_of a) t

abbrev pub WriteUtc : List ℕ → ℕ → List ℕ → List ℕ → Type 0
WriteUtc _ a t after = after ≡ utc (offset_of a) t
