-- What each public function of this crate promises. Assumes nothing.
use Rattle.std.specs.Prelude.{◌≡◌, Bool, List, ℕ}
use Rattle.stops.specs.Stops.{mode_holds, full_with220001, form_stop, indexed_form_stop}

abbrev pub IsMode : ℕ → Bool → Type 0
IsMode mode r = r ≡ mode_holds mode

-- a full list of a version that is incremental only
abbrev pub IsFullWith220001 : ℕ → List ℕ → Bool → Type 0
IsFullWith220001 mode h r = r ≡ full_with220001 mode h

-- the first of the stops 21 to 32
abbrev pub FormStop : ℕ → Bool → List ℕ → List ℕ → List ℕ → ℕ → Type 0
FormStop mode timed register rows h r = r ≡ form_stop mode timed register rows h

-- the first of the stops 21 to 24, 36, 25 to 32, where the index has k numbers
abbrev pub IndexedFormStop : ℕ → Bool → List ℕ → List ℕ → ℕ → List ℕ → ℕ → Type 0
IndexedFormStop mode timed register rows k h r = r ≡ indexed_form_stop mode timed register rows k h
