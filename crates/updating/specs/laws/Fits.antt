-- The lines that an HGC says were taken can be applied to the sender's copy.
-- Assumes nothing.
use Rattle.std.specs.Prelude.{◌≡◌, true, false, List, ℕ, ◌≤◌, ℤ, length}
use Rattle.theory.specs.Each.{Each}
use Rattle.theory.specs.laws.Each.{each_map}
use Rattle.theory.specs.laws.Walk.{each_passes}
use Rattle.theory.specs.laws.Truth.{and_left, and_right}
use Rattle.columns.specs.Columns.{pan_of}
use Rattle.times.specs.Time.{real_time}
use Rattle.offsets.specs.Offset.{utc, utc_holds}
use Rattle.offsets.specs.laws.Shift.{utc_real}
use Rattle.stamps.specs.Stamp.{stamp}
use Rattle.records.specs.Slot.{slot_of, storable}
use Rattle.header.specs.Header.{sender, header_holds}
use Rattle.slots.specs.Slots.{slots_in, records}
use Rattle.slots.specs.Search.{of_actor, held_by_another}
use Rattle.holdings.specs.laws.Storing.{own_free}
use Rattle.holdings.specs.Room.{used_after}
use Rattle.holdings.proofs.Room.{used_after_lem}
use Rattle.upkeep.specs.Makes.{Makes}
use Rattle.applying.specs.Fit.{Fit}
use Rattle.answers.specs.Layout.{list_of, reception_of}
use Rattle.receipts.specs.Receipt.{taken_by, receipt_holds}
use Rattle.provider.specs.laws.Held.{taken_storable, taken_apart, taken_made}
use Rattle.updating.specs.Sent.{sent}
use Rattle.copies.specs.Copy.{own_holds}
use Rattle.updating.specs.Update.{copy_following, sent_holds}

module _ (mode : ℕ) (o : ℤ) (h g : List ℕ) (headed : header_holds h ≡ true) (k : sent_holds (sent mode o h g) ≡ true) where
  pub receipt_holds_lem : receipt_holds h g ≡ true
  unfolding sent_holds
  receipt_holds_lem = and_left (receipt_holds h g) (utc_holds o (reception_of g)) k

  -- its reception has a UTC time
  pub received_real : real_time (utc o (reception_of g)) ≡ true
  unfolding sent_holds
  received_real = utc_real o (reception_of g) (and_right (receipt_holds h g) (utc_holds o (reception_of g)) k)

  abbrev s : List ℕ
  s = stamp (list_of g) (utc o (reception_of g))

  pub lines_storable : Each (λ l. storable s l ≡ true) (taken_by h g)
  lines_storable = taken_storable h g receipt_holds_lem headed (utc o (reception_of g)) received_real

  made : Each (Makes (slot_of s)) (taken_by h g)
  made = taken_made h g receipt_holds_lem headed (utc o (reception_of g)) received_real

  -- in the sender's copy no other actor holds a PAN
  pub taken_free : (copy : List ℕ) → own_holds copy h ≡ true → Each (λ l. held_by_another (pan_of l) (sender h) (records copy) ≡ false) (taken_by h g)
  unfolding own_holds
  taken_free copy w = each_map (λ l e. own_free (sender h) (pan_of l) (each_passes (of_actor (sender h)) (records copy) w)) made

  -- the number of records that follow, as it is reckoned
  pub following_used : (copy : List ℕ) → used_after mode (sender h) (records copy) (taken_by h g) ≡ length (copy_following (sent mode o h g) copy)
  unfolding copy_following
  following_used copy = used_after_lem (slot_of s) mode (sender h) (records copy) (taken_by h g) (each_map (λ l m. m.pan) made) (taken_apart h g receipt_holds_lem)

  -- the taken lines can be applied to the sender's copy
  pub taken_fit : (copy : List ℕ) → own_holds copy h ≡ true → length (copy_following (sent mode o h g) copy) ≤ slots_in copy
      → Fit mode (sender h) (slot_of s) (slots_in copy) (records copy) (taken_by h g)
  unfolding copy_following
  taken_fit copy w m = record { made = made; apart = taken_apart h g receipt_holds_lem; free = taken_free copy w; room = m }
