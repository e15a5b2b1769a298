-- A provider's copy beside an HGV of his: the stops of an update before it looks at the HGC. h is the HGV. Assumes nothing.
use Rattle.std.specs.Prelude.{ℕ, Bool, not, List, [], ◌∷◌}
use Rattle.theory.specs.First.{Rule, ◌if◌}
use Rattle.theory.specs.Walk.{each}
use Rattle.hgv.specs.Layout.{length_holds}
use Rattle.frames.specs.Frames.{footer_holds, frames_hold}
use Rattle.header.specs.Header.{sender, header_holds}
use Rattle.claims.specs.Claims.{version_holds, receiver_holds, count_holds}
use Rattle.slots.specs.Slots.{records}
use Rattle.slots.specs.Search.{of_actor}
use Rattle.register.specs.Register.{in_order}
use Rattle.stops.specs.Stops.{mode_holds, full_with220001}

-- every record in the copy is the sender's
unfoldable pub own_holds : List ℕ → List ℕ → Bool
own_holds copy h = each (of_actor (sender h)) (records copy)

-- 21, 23, 25 to 28, 29 (receiver only), 51 (another actor than the sender in the copy), 30 to 32
unfoldable pub copy_stops : ℕ → List ℕ → List ℕ → List Rule
copy_stops mode copy h =
    (21 if not (mode_holds mode))
    ∷ (23 if not (in_order copy))
    ∷ (25 if not (length_holds h))
    ∷ (26 if not (header_holds h))
    ∷ (27 if not (version_holds h))
    ∷ (28 if full_with220001 mode h)
    ∷ (29 if not (receiver_holds h))
    ∷ (51 if not (own_holds copy h))
    ∷ (30 if not (count_holds h))
    ∷ (31 if not (footer_holds h))
    ∷ (32 if not (frames_hold h))
    ∷ []
