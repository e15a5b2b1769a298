-- The number that digits write, and the digits that a number is written in. Assumes nothing.
use Rattle.std.specs.Prelude.{ℕ, zero, suc, ◌+◌, ◌*◌, ◌-◌, ◌/◌, ◌%◌, List, [], ◌∷◌, ◌++◌, replicate}
use Rattle.theory.specs.Text.{byte}

-- the number that digits write, behind the number n
unfoldable pub number_after : ℕ → List ℕ → ℕ
number_after n [] = n
number_after n (x ∷ xs) = number_after (n * 10 + (x - byte "0")) xs

-- the number that digits write
unfoldable pub number : List ℕ → ℕ
number = number_after 0

-- v in k digits, with zeros in front; of a number that has more, the last k
unfoldable pub decimal : ℕ → ℕ → List ℕ
decimal zero v = []
decimal (suc k) v = decimal k (v / 10) ++ (byte "0" + v % 10) ∷ []

-- n zeros
unfoldable pub zeros : ℕ → List ℕ
zeros n = replicate n (byte "0")
