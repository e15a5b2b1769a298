-- What each public function of this crate promises. Assumes nothing.
use Rattle.std.specs.Prelude.{◌≡◌, Bool, List, ℕ}
use Rattle.claims.specs.Claims.{version_holds, incremental_only, receiver_holds, count_holds}

abbrev pub HasVersion : List ℕ → Bool → Type 0
HasVersion h r = r ≡ version_holds h

abbrev pub IsIncrementalOnly : List ℕ → Bool → Type 0
IsIncrementalOnly h r = r ≡ incremental_only h

abbrev pub HasReceiver : List ℕ → Bool → Type 0
HasReceiver h r = r ≡ receiver_holds h

abbrev pub HasCount : List ℕ → Bool → Type 0
HasCount h r = r ≡ count_holds h
