-- Two outcomes of one call are one, for each public function of this crate. Assumes nothing.
use Rattle.std.specs.Prelude.{◌≡◌, List, ℕ}
use Rattle.theory.specs.laws.Outcome.{one_outcome}
use Rattle.holdings.specs.Promises.{PlaceAt, FindPlaces, UsedAfter}

pub place_at_one : (found : List ℕ) (i r s : ℕ) → PlaceAt found i r → PlaceAt found i s → r ≡ s
place_at_one found i r s = one_outcome

pub find_places_one : (mode : ℕ) (register lines : List ℕ) (width : ℕ) (vs found b c : List ℕ)
    → FindPlaces mode register lines width vs found b → FindPlaces mode register lines width vs found c → b ≡ c
find_places_one mode register lines width vs found b c = one_outcome

pub used_after_one : (mode : ℕ) (register who vs found : List ℕ) (r s : ℕ) → UsedAfter mode register who vs found r → UsedAfter mode register who vs found s → r ≡ s
used_after_one mode register who vs found r s = one_outcome
