-- Laws of a slot of a register with a line's record written into it. Assumes nothing.
use Rattle.std.specs.Prelude.{◌≡◌, true, List, ℕ, ◌≤◌, ◌<◌, eqb, length}
use borrow.Author.Tests.{eq-eqb, le-leb, lt-ltb}
use Rattle.theory.specs.Parts.{part_at}
use Rattle.theory.specs.laws.Parts.{whole_fits, length_part}
use Rattle.theory.specs.Put.{put_part}
use Rattle.theory.specs.laws.Put.{put_ap}
use Rattle.sizes.specs.Sizes.{slot_length, stamp_length}
use Rattle.slots.specs.Slots.{slots_in}
use Rattle.records.specs.Slot.{line_least, slot_of, fits, written, put_record}

-- ---- where they fit, the record and the stamp are written

module _ (s l : List ℕ) (long : line_least ≤ length l) (sized : length s ≡ stamp_length) where
  pub written_there : (slot : List ℕ) → length slot ≡ slot_length → written s l slot ≡ slot_of s l
  unfolding written fits
  written_there slot h = rw (eq-eqb (length slot) slot_length h, le-leb line_least (length l) long, eq-eqb (length s) stamp_length sized)

  pub put_there : (i : ℕ) (b : List ℕ) → i < slots_in b → put_record i s l b ≡ put_part slot_length i (slot_of s l) b
  unfolding put_record written fits
  put_there i b h =
      let n : length (part_at slot_length i b) ≡ slot_length = length_part slot_length i b (whole_fits slot_length i (length b) h) in
      let p : eqb (length (part_at slot_length i b)) slot_length ≡ true = eq-eqb (length (part_at slot_length i b)) slot_length n in
      rw (lt-ltb i (slots_in b) h) (put_ap slot_length i b (rw (p, le-leb line_least (length l) long, eq-eqb (length s) stamp_length sized)))
