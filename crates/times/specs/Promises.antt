-- What each public function of this crate promises. Assumes nothing.
use Rattle.std.specs.Prelude.{◌≡◌, Bool, List, ℕ, Option}
use Rattle.times.specs.Time.{real_time, real_date}
use Rattle.times.specs.Seconds.{time_of, time_at}
use Rattle.times.specs.Order.{earlier}

abbrev pub TimeOf : List ℕ → Option ℕ → Type 0
TimeOf t r = r ≡ time_of t

abbrev pub IsRealTime : List ℕ → Bool → Type 0
IsRealTime t r = r ≡ real_time t

abbrev pub IsRealDate : List ℕ → Bool → Type 0
IsRealDate d r = r ≡ real_date d

abbrev pub IsEarlier : List ℕ → List ℕ → Bool → Type 0
IsEarlier a b r = r ≡ earlier a b

-- the text after it
abbrev pub WriteTime : List ℕ → ℕ → List ℕ → Type 0
WriteTime _ n after = after ≡ time_at n
