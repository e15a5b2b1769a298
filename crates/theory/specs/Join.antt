-- Parts joined to a block. Assumes nothing.
use Rattle.std.specs.Prelude.{List, [], ◌∷◌, ◌++◌, ℕ}

-- the parts one behind the other
unfoldable pub flat : List (List ℕ) → List ℕ
flat [] = []
flat (r ∷ R) = r ++ flat R
