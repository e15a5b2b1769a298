-- What the public function of this crate promises. Assumes nothing.
use Rattle.std.specs.Prelude.{◌≡◌, Bool, List, map, ℕ}
use Rattle.theory.specs.Distinct.{distinct}
use Rattle.keys.specs.declared.Keys.{Keys}
use Rattle.keys.specs.Keys.{parts_of, key_of}

-- no two of the first n parts have one key
abbrev pub AllApart : List ℕ → Keys → ℕ → Bool → Type 0
AllApart b keys n r = r ≡ distinct (map (key_of keys) (parts_of keys n b))
