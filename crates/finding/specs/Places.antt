-- Where the keys of lines, or of the parts themselves, stand among the parts of a block. Assumes nothing.
use Rattle.std.specs.Prelude.{ℕ, Bool, cond, List, length, get_or}
use Rattle.theory.specs.Same.{eqs}
use Rattle.theory.specs.Parts.{part_at}
use Rattle.theory.specs.Pick.{good}
use Rattle.theory.specs.Place.{place}
use Rattle.keys.specs.declared.Keys.{Keys}
use Rattle.keys.specs.Keys.{parts_of, key_of, key_at}

module _ (key : List ℕ → List ℕ) where
  -- does a part have the key t
  abbrev pub has_key : List ℕ → List ℕ → Bool
  has_key t x = eqs (key x) t

  -- of the line at the place i, if it is marked 0: the place of the first of the parts xs that has its key, or their
  -- number; w is the width of the lines
  unfoldable pub place_for : List (List ℕ) → (List ℕ → List ℕ) → ℕ → List ℕ → List ℕ → ℕ → ℕ
  place_for xs line_key w lines vs i = cond (good (get_or vs i 0)) (place (has_key (line_key (part_at w i lines))) xs) (length xs)

-- of the part at the place i of n parts: the place of the first that has its key
unfoldable pub first_for : Keys → ℕ → List ℕ → ℕ → ℕ
first_for keys n b i = place (has_key (key_of keys) (key_at keys b i)) (parts_of keys n b)
