-- Where the PANs of the taken lines stand among the records held. Assumes nothing.
use Rattle.std.specs.Prelude.{◌≡◌, true, cond, List, ℕ, ◌<◌, length, get_or}
use Rattle.theory.specs.Parts.{part_at}
use Rattle.theory.specs.Pick.{good}
use Rattle.theory.specs.Table.{table_of}
use Rattle.columns.specs.Columns.{pan_of}
use Rattle.slots.specs.Search.{place_of}
use Rattle.finding.specs.Places.{place_for}
use Rattle.sizes.specs.Modes.{is_full}

-- of each line that was taken, where its PAN stands among the records R; lines of this width with these verdicts
unfoldable pub places_in : List (List ℕ) → ℕ → List ℕ → List ℕ → List ℕ
places_in R width lines vs = table_of (place_for pan_of R pan_of width lines vs) (length vs)

-- mode 2 looks for none, since the sender's records go and no other actor holds one of the PANs
unfoldable pub places_after : ℕ → List (List ℕ) → ℕ → List ℕ → List ℕ → List ℕ → List ℕ
places_after mode R width lines vs found = cond (is_full mode) found (places_in R width lines vs)

-- `found` tells where the PAN of each taken line stands
pub record Told (R : List (List ℕ)) (width : ℕ) (lines vs found : List ℕ) : Type 0 where
  pub told : (i : ℕ) → i < length vs → good (get_or vs i 0) ≡ true → get_or found i 0 ≡ place_of (pan_of (part_at width i lines)) R
