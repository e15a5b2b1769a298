-- Those of a list whose verdict passes a test: a verdict is a number, and zero is good. Assumes nothing.
use Rattle.std.specs.Prelude.{Bool, true, false, List, [], ◌∷◌, ℕ, zero, suc}
use Rattle.theory.specs.Keep.{onto}

-- zero is good
unfoldable pub good : ℕ → Bool
good zero = true
good (suc n) = false

-- any other number is bad
unfoldable pub bad : ℕ → Bool
bad zero = false
bad (suc n) = true

-- those of a list whose verdict, at the same place, passes the test
unfoldable pub pick : {A : Type 0} → (ℕ → Bool) → List ℕ → List A → List A
pick p [] xs = []
pick p (v ∷ vs) [] = []
pick p (v ∷ vs) (x ∷ xs) = onto (p v) x (pick p vs xs)
