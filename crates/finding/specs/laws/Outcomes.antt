-- Two outcomes of one call are one, for each public function of this crate. Assumes nothing.
use Rattle.std.specs.Prelude.{◌≡◌, List, ℕ}
use Rattle.theory.specs.laws.Outcome.{one_outcome}
use Rattle.keys.specs.declared.Keys.{Keys}
use Rattle.finding.specs.Promises.{Places, PlacesBy, Firsts}

pub places_one : (b : List ℕ) (keys : Keys) (n : ℕ) (lines : List ℕ) (line : Keys) (marks found r s : List ℕ)
    → Places b keys n lines line marks found r → Places b keys n lines line marks found s → r ≡ s
places_one b keys n lines line marks found r s = one_outcome

pub places_by_one : (b : List ℕ) (keys : Keys) (n : ℕ) (lines : List ℕ) (line : Keys) (marks found r s : List ℕ)
    → PlacesBy b keys n lines line marks found r → PlacesBy b keys n lines line marks found s → r ≡ s
places_by_one b keys n lines line marks found r s = one_outcome

pub firsts_one : (b : List ℕ) (keys : Keys) (found r s : List ℕ) → Firsts b keys found r → Firsts b keys found s → r ≡ s
firsts_one b keys found r s = one_outcome
