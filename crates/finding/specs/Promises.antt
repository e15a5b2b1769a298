-- What each public function of this crate promises. Assumes nothing.
use Rattle.std.specs.Prelude.{◌≡◌, List, ℕ, length}
use Rattle.theory.specs.Table.{table_of}
use Rattle.keys.specs.declared.Keys.{Keys}
use Rattle.keys.specs.Keys.{parts_of, key_of}
use Rattle.finding.specs.Places.{place_for, first_for}

-- where the keys of lines stand among n parts, for as many lines as `found` has room for
abbrev pub Places : List ℕ → Keys → ℕ → List ℕ → Keys → List ℕ → List ℕ → List ℕ → Type 0
Places b keys n lines line marks found after =
    after ≡ table_of (place_for (key_of keys) (parts_of keys n b) (key_of line) line.width lines marks) (length found)

-- the same; what the index holds after it is left open
abbrev pub PlacesBy : List ℕ → Keys → ℕ → List ℕ → Keys → List ℕ → List ℕ → List ℕ → Type 0
PlacesBy b keys n lines line marks found after = Places b keys n lines line marks found after

-- of each part, as many as `found` has room for: the place of the first that has its key
abbrev pub Firsts : List ℕ → Keys → List ℕ → List ℕ → Type 0
Firsts b keys found after = after ≡ table_of (first_for keys (length found) b) (length found)
