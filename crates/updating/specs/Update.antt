-- The provider's update of his copy: its stops, its answer, and the copy after it, for every mode and texts of every length.
-- h is the HGV, s what the provider was sent. Assumes nothing.
use Rattle.std.specs.Prelude.{ℕ, Bool, not, ◌&&◌, List, [], ◌∷◌, ◌++◌, ltb, length}
use Rattle.theory.specs.First.{Rule, ◌if◌, first}
use Rattle.theory.specs.Stopped.{unless_stopped}
use Rattle.theory.specs.Join.{flat}
use Rattle.theory.specs.Pad.{pad}
use Rattle.header.specs.Header.{sender}
use Rattle.sizes.specs.Sizes.{slot_length}
use Rattle.stamps.specs.Stamp.{stamp}
use Rattle.records.specs.Slot.{slot_of}
use Rattle.slots.specs.Slots.{slots_in, records}
use Rattle.holdings.specs.Holdings.{holdings}
use Rattle.offsets.specs.Offset.{utc, utc_holds}
use Rattle.copies.specs.Copy.{copy_stops}
use Rattle.answers.specs.Layout.{list_of, reception_of}
use Rattle.receipts.specs.Receipt.{taken_by, receipt_holds}
use Rattle.provider.specs.Counted.{Counted}
use Rattle.provider.specs.Answer.{stop_counts, success_counts}
use Rattle.updating.specs.Sent.{Sent}

-- when the file was received, in UTC: the HGC shows it in local time
abbrev pub received_at : Sent → List ℕ
received_at s = utc s.offset (reception_of s.hgc)

-- what each taken line's slot is stamped with: the HGC's list, and its reception in UTC
abbrev pub sent_stamp : Sent → List ℕ
sent_stamp s = stamp (list_of s.hgc) (received_at s)

-- the records that follow: the taken lines applied as the import applies them
unfoldable pub copy_following : Sent → List ℕ → List (List ℕ)
copy_following s copy = holdings s.mode (sender s.hgv) (slot_of (sent_stamp s)) (records copy) (taken_by s.hgv s.hgc)

-- the HGC answers the HGV, the offset is in range, and the UTC year stays within 0001-9999
unfoldable pub sent_holds : Sent → Bool
sent_holds s = receipt_holds s.hgv s.hgc && utc_holds s.offset (reception_of s.hgc)

-- 52 where this does not hold, and 33: more used slots would follow than there are
unfoldable pub receipt_stops : Sent → List ℕ → List Rule
receipt_stops s copy = (52 if not (sent_holds s)) ∷ (33 if ltb (slots_in copy) (length (copy_following s copy))) ∷ []

-- the number answered: the first that holds, 0 for success
unfoldable pub update_number : Sent → List ℕ → ℕ
update_number s copy = first (copy_stops s.mode copy s.hgv ++ receipt_stops s copy)

unfoldable pub update_answer : Sent → List ℕ → Counted
update_answer s copy = let n : ℕ = update_number s copy in unless_stopped n (success_counts s.hgv s.hgc) (stop_counts n)

-- the records that follow, and free slots behind them
unfoldable pub copy_written : Sent → List ℕ → List ℕ
copy_written s copy = flat (pad slot_length (slots_in copy) (copy_following s copy))

unfoldable pub copy_after : Sent → List ℕ → List ℕ
copy_after s copy = unless_stopped (update_number s copy) (copy_written s copy) copy
