-- A block as parts of one width. Assumes nothing.
use Rattle.std.specs.Prelude.{List, [], ◌∷◌, ℕ, zero, suc, ◌*◌, take, drop}

-- n parts of width w
unfoldable pub chop : ℕ → ℕ → List ℕ → List (List ℕ)
chop w zero b = []
chop w (suc n) b = take w b ∷ chop w n (drop w b)

-- the part at place i, counted from 0
unfoldable pub part_at : ℕ → ℕ → List ℕ → List ℕ
part_at w i b = take w (drop (i * w) b)
