-- What the time check called from Rust promises: that of `time_of`, by the number returned and the number written. Assumes
-- nothing.
use Rattle.std.specs.Prelude.{◌≡◌, List, ℕ, Option, Some, None}
use Rattle.times.specs.Seconds.{time_of}

-- 0 where a text is a real time, and else 22
unfoldable pub number_of : Option ℕ → ℕ
number_of (Some n) = 0
number_of None = 22

-- its seconds, and else zero
unfoldable pub seconds_in : Option ℕ → ℕ
seconds_in (Some n) = n
seconds_in None = 0

abbrev pub GraftspindleSeconds : List ℕ → ℕ → ℕ → Type 0
GraftspindleSeconds t number seconds = (number ≡ number_of (time_of t)) × (seconds ≡ seconds_in (time_of t))
