-- What the places found tell of the lines. Assumes nothing.
use Rattle.std.specs.Prelude.{◌≡◌, List, ℕ, ◌<◌, get_or}
use Rattle.std.proofs.Math.Path.{ap}
use Rattle.std.proofs.Common.{◌∙◌}
use Rattle.std.proofs.Math.ListN.{length}
use Rattle.theory.specs.Parts.{part_at}
use Rattle.theory.specs.laws.Table.{entry, length_table}
use Rattle.columns.specs.Columns.{pan_of}
use Rattle.slots.specs.Search.{place_of}
use Rattle.flagging.specs.Places.{places_of}

module _ (R : List (List ℕ)) (width : ℕ) (lines : List ℕ) (n : ℕ) (found : List ℕ) (e : found ≡ places_of R width lines n) where
  abbrev at : ℕ → ℕ
  at i = place_of (pan_of (part_at width i lines)) R

  -- where the PAN of each line stands
  pub places_told : (i : ℕ) → i < n → get_or found i 0 ≡ place_of (pan_of (part_at width i lines)) R
  unfolding places_of
  places_told i h = rw e (entry at n i h)

  pub length_places : length found ≡ n
  unfolding places_of
  length_places = ap length e ∙ length_table at n
