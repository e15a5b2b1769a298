-- Where the keys of the parts of a block stand. Assumes nothing.
use Rattle.std.specs.Prelude.{List, ℕ, ◌≤◌}
use Rattle.theory.specs.Parts.{chop, part_at}
use Rattle.texts.specs.Field.{field}
use Rattle.keys.specs.declared.Keys.{Keys}

-- positions count from 1, and the last is not in front of the first
abbrev pub Forward : Keys → Type 0
Forward keys = (1 ≤ keys.from) × (keys.from ≤ keys.to)

-- the first n parts of a block
abbrev pub parts_of : Keys → ℕ → List ℕ → List (List ℕ)
parts_of keys n b = chop keys.width n b

-- the key of a part
abbrev pub key_of : Keys → List ℕ → List ℕ
key_of keys = field keys.from keys.to

-- the key of the part at place i of a block
unfoldable pub key_at : Keys → List ℕ → ℕ → List ℕ
key_at keys b i = key_of keys (part_at keys.width i b)
