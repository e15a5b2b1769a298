-- What each public function of this crate promises. Assumes nothing.
use Rattle.std.specs.Prelude.{◌≡◌, Bool, List, ℕ}
use Rattle.texts.specs.declared.columns.Columns.{Columns}
use Rattle.texts.specs.declared.parts.Parts.{Parts}
use Rattle.keys.specs.declared.Keys.{Keys}
use Rattle.keys.specs.declared.keyed.KeyedParts.{KeyedParts}
use Rattle.keys.specs.Keys.{key_at}
use Rattle.keys.specs.Less.{less}

abbrev pub Key : List ℕ → Keys → ℕ → List ℕ → Type 0
Key b keys i r = r ≡ key_at keys b i

-- the same parts, by what stands in these columns of each
abbrev pub KeyedPartsBy : Parts → Columns → KeyedParts → Type 0
KeyedPartsBy parts at r =
    (r.block.now ≡ parts.block.now) × (r.keys ≡ record { width = parts.width; from = at.from; to = at.to }) × (r.count ≡ parts.count)

-- the key of the part at place i
abbrev pub KeyedPartsKey : KeyedParts → ℕ → List ℕ → Type 0
KeyedPartsKey parts i r = r ≡ key_at parts.keys parts.block.now i

abbrev pub IsLess : List ℕ → List ℕ → Bool → Type 0
IsLess s t r = r ≡ less s t
