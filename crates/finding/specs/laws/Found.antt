-- Where a key stands among parts. Assumes nothing.
use Rattle.std.specs.Prelude.{◌≡◌, ◌≤◌, List, ℕ}
use Rattle.theory.specs.Place.{place}
use Rattle.keys.specs.declared.keyed.KeyedParts.{KeyedParts}
use Rattle.keys.specs.Keys.{parts_of, key_of}
use Rattle.finding.specs.Places.{has_key}

-- r is the place of the first part that has the key t, or how many parts there are
abbrev pub Found : KeyedParts → List ℕ → ℕ → Type 0
Found parts t r = (r ≡ place (has_key (key_of parts.keys) t) (parts_of parts.keys parts.count parts.block.now)) × (r ≤ parts.count)
