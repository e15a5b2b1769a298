-- How many of a list of numbers pass a test. Assumes nothing.
use Rattle.std.specs.Prelude.{Bool, List, [], ◌∷◌, ℕ}
use Rattle.theory.specs.Count.{bump}

unfoldable pub tally : (ℕ → Bool) → List ℕ → ℕ
tally p [] = 0
tally p (v ∷ vs) = bump (p v) (tally p vs)
