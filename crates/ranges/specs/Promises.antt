-- What each public function of this crate promises. Assumes nothing.
use Rattle.std.specs.Prelude.{◌≡◌, List, ℕ, ◌^◌, ◌≤◌, min, length}
use Rattle.theory.specs.Every.{leading}
use Rattle.ranges.specs.Ranges.{wild, tame, base, valued}

-- how many bytes stand in front of the first wild character
abbrev pub Plain : List ℕ → ℕ → Type 0
Plain f r =
    (r ≡ leading tame f)
    × (r ≤ length f)

-- how many wild characters stand in front, 4 at most
abbrev pub Width : List ℕ → ℕ → Type 0
Width f r =
    (r ≡ min 4 (leading wild f))
    × (r ≤ length f)

-- how many values the run takes
abbrev pub Values : ℕ → ℕ → ℕ → Type 0
Values kind width r = r ≡ base kind ^ width

-- the run after it
abbrev pub PutValue : List ℕ → ℕ → ℕ → List ℕ → Type 0
PutValue run kind v after = after ≡ valued kind (length run) v
