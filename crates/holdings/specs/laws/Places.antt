-- What the places found tell of the lines. Assumes nothing.
use Rattle.std.specs.Prelude.{◌≡◌, Bool, cond, List, ℕ}
use Rattle.std.proofs.Math.Path.{ap}
use Rattle.std.proofs.Common.{◌∙◌}
use Rattle.std.proofs.Math.Bool.{true, false}
use Rattle.std.proofs.Math.ListN.{length}
use Rattle.theory.specs.laws.Table.{entry, length_table}
use Rattle.columns.specs.Columns.{pan_of}
use Rattle.slots.specs.Search.{holds_pan, place_of}
use Rattle.finding.specs.Places.{place_for}
use Rattle.sizes.specs.Modes.{is_full}
use Rattle.holdings.specs.Places.{places_in, places_after, Told}

-- found₀ is the block before, and `found` what was found
module _ (mode : ℕ) (R : List (List ℕ)) (width : ℕ) (lines vs found₀ found : List ℕ) (e : found ≡ places_after mode R width lines vs found₀) where
  abbrev f : ℕ → ℕ
  f = place_for pan_of R pan_of width lines vs

  pub places_tell : is_full mode ≡ false → Told R width lines vs found
  unfolding places_after places_in place_for place_of holds_pan
  places_tell m = record { told = λ i h g. rw (e, m) (entry f (length vs) i h ∙ rw g) }

  pub length_places : length found₀ ≡ length vs → length found ≡ length vs
  unfolding places_after places_in
  length_places l = ap length e ∙ go (is_full mode)
    where
      go : (b : Bool) → length (cond b found₀ (places_in R width lines vs)) ≡ length vs
      go true = l
      go false = length_table f (length vs)
