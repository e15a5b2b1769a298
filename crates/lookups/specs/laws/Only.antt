-- The one of some slots that passes a test, as the search for it tells. Assumes nothing.
use Rattle.std.specs.Prelude.{Bool, cond, Option, Some, None, List, ℕ, ◌+◌, drop}
use Rattle.std.specs.List.{list_any}
use Rattle.lookups.specs.Lookup.{Found}

-- the first that passes, with none behind it that does
abbrev pub only : (List ℕ → Bool) → List (List ℕ) → Option ℕ → Found
only q xs None = record { number = 41; place = 0 }
only q xs (Some i) = cond (list_any q (drop (i + 1) xs)) (record { number = 42; place = 0 }) (record { number = 0; place = i })
