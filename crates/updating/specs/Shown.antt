-- The update without an offset: by b, whether 52 is not given, and by t, when the file was received. With the HGC's holding for b and its
-- reception for t this is the update as it was before it took an offset. Assumes nothing.
use Rattle.std.specs.Prelude.{ℕ, Bool, not, List, [], ◌∷◌, ◌++◌, ltb, length}
use Rattle.theory.specs.First.{◌if◌, first}
use Rattle.theory.specs.Stopped.{unless_stopped}
use Rattle.theory.specs.Join.{flat}
use Rattle.theory.specs.Pad.{pad}
use Rattle.header.specs.Header.{sender}
use Rattle.sizes.specs.Sizes.{slot_length}
use Rattle.stamps.specs.Stamp.{stamp}
use Rattle.records.specs.Slot.{slot_of}
use Rattle.slots.specs.Slots.{slots_in, records}
use Rattle.holdings.specs.Holdings.{holdings}
use Rattle.answers.specs.Layout.{list_of}
use Rattle.receipts.specs.Receipt.{taken_by}
use Rattle.provider.specs.Counted.{Counted}
use Rattle.provider.specs.Answer.{stop_counts, success_counts}
use Rattle.updating.specs.Sent.{Sent}
use Rattle.copies.specs.Copy.{copy_stops}

module _ (b : Bool) (t : List ℕ) (s : Sent) (copy : List ℕ) where
  unfoldable pub following_as : List (List ℕ)
  following_as = holdings s.mode (sender s.hgv) (slot_of (stamp (list_of s.hgc) t)) (records copy) (taken_by s.hgv s.hgc)

  unfoldable pub number_as : ℕ
  number_as = first (copy_stops s.mode copy s.hgv ++ (52 if not b) ∷ (33 if ltb (slots_in copy) (length following_as)) ∷ [])

  unfoldable pub answer_as : Counted
  answer_as = unless_stopped number_as (success_counts s.hgv s.hgc) (stop_counts number_as)

  unfoldable pub copy_as : List ℕ
  copy_as = unless_stopped number_as (flat (pad slot_length (slots_in copy) following_as)) copy
