-- What an accepted import leaves: the register is in order again, holds exactly the records that follow, and no other provider's record
-- differs (T9). Assumes nothing.
use Rattle.std.specs.Prelude.{◌≡◌, false, List, [], ℕ, ◌<◌, length, get_or}
use Rattle.header.specs.Header.{sender}
use Rattle.records.specs.Slot.{slot_of}
use Rattle.slots.specs.Slots.{slots_in, records}
use Rattle.slots.specs.Search.{of_actor}
use Rattle.verdicts.specs.Verdict.{taken}
use Rattle.holdings.specs.Holdings.{others}
use Rattle.sizes.specs.Modes.{is_full}
use Rattle.upkeep.specs.Holds.{Holds}
use Rattle.applying.specs.Fit.{Fit}
use Rattle.applying.specs.laws.Follows.{follows}
use Rattle.applying.specs.laws.Others.{others_stay, places_stay}
use Rattle.imports.specs.Handed.{Handed}
use Rattle.imports.specs.Import.{judged, file_stamp, following, import_number, register_written}
use Rattle.imports.specs.laws.Accepted.{lines_his, lines_apart, lines_free}
use Rattle.imports.specs.laws.Numbers.{Formed, accepted_clear}
use Rattle.imports.proofs.Room.{lines_made, accepted_passed}

module _ (f : Handed) (register : List ℕ) (e : import_number f register ≡ 0) where
  c : Formed f register
  c = accepted_clear f register e

  pub fit : Fit f.mode (sender f.hgv) (slot_of (file_stamp f)) (slots_in register) (records register) (taken (judged register f.rows f.hgv) f.hgv)
  unfolding following
  fit =
      record {
        made = lines_made f register c;
        apart = lines_apart f register c;
        free = lines_free f register c;
        room = (accepted_passed f register e).slots;
      }

  -- in order, and the records are those that follow
  pub holds_following : Holds (slots_in register) (following f register) (register_written f register)
  unfolding following register_written
  holds_following = follows f.mode (sender f.hgv) (slot_of (file_stamp f)) register (taken (judged register f.rows f.hgv) f.hgv) c.ordered fit

  -- the other providers' records are the same sequence
  pub others_same : others (sender f.hgv) (following f register) ≡ others (sender f.hgv) (records register)
  unfolding following
  others_same = others_stay f.mode (sender f.hgv) (slot_of (file_stamp f)) (slots_in register) (records register) (taken (judged register f.rows f.hgv) f.hgv) fit (lines_his f register c)

  -- in mode 1 also in the same slots
  pub places_same : is_full f.mode ≡ false → (i : ℕ) → i < length (records register) → of_actor (sender f.hgv) (get_or (records register) i []) ≡ false
      → get_or (following f register) i [] ≡ get_or (records register) i []
  unfolding following
  places_same = places_stay f.mode (sender f.hgv) (slot_of (file_stamp f)) (slots_in register) (records register) (taken (judged register f.rows f.hgv) f.hgv) fit (lines_his f register c)
