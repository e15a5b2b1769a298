-- Records in front and free parts behind them, n parts in all; and those in front that pass a test. Assumes nothing.
use Rattle.std.specs.Prelude.{Bool, true, false, List, [], ◌∷◌, ◌++◌, ℕ, ◌-◌, length, replicate}

-- a free part: w zero bytes
unfoldable pub free : ℕ → List ℕ
free w = replicate w 0

-- the records R and behind them free parts, n parts in all
unfoldable pub pad : ℕ → ℕ → List (List ℕ) → List (List ℕ)
pad w n R = R ++ replicate (n - length R) (free w)

-- x and what is behind it where the test holds, else nothing
unfoldable pub front_on : {A : Type 0} → Bool → A → List A → List A
front_on true x xs = x ∷ xs
front_on false x xs = []

-- those that pass the test before the first that does not
unfoldable pub front : {A : Type 0} → (A → Bool) → List A → List A
front p [] = []
front p (x ∷ xs) = front_on (p x) x (front p xs)
