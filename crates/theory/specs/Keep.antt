-- What a test keeps of a list, in order. Assumes nothing.
use Rattle.std.specs.Prelude.{Bool, true, false, List, [], ◌∷◌}

-- x in front where the test holds
unfoldable pub onto : {A : Type 0} → Bool → A → List A → List A
onto true x xs = x ∷ xs
onto false x xs = xs

-- those of a list that pass the test
unfoldable pub sift : {A : Type 0} → (A → Bool) → List A → List A
sift p [] = []
sift p (x ∷ xs) = onto (p x) x (sift p xs)
