-- One part of a block replaced by another of its width. Assumes nothing.
use Rattle.std.specs.Prelude.{List, ◌++◌, ℕ, ◌+◌, ◌*◌, take, drop}

-- the block b with x in the place of part i
unfoldable pub put_part : ℕ → ℕ → List ℕ → List ℕ → List ℕ
put_part w i x b = take (i * w) b ++ (x ++ drop (i * w + w) b)
