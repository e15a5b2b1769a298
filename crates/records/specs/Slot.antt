-- What a taken line becomes in its slot, and a slot of a register with it, for texts of any length. Assumes nothing.
use Rattle.std.specs.Prelude.{Bool, cond, ◌&&◌, List, ◌++◌, ℕ, eqb, leb, ltb, length}
use Rattle.theory.specs.Parts.{part_at}
use Rattle.theory.specs.Put.{put_part}
use Rattle.sizes.specs.Sizes.{slot_length, stamp_length}
use Rattle.columns.specs.Columns.{actor}
use Rattle.lines.specs.Rules.{record_holds}
use Rattle.lines.specs.End.{record_of}
use Rattle.stamps.specs.Stamp.{reception_in, stamp_holds}
use Rattle.slots.specs.Slots.{slots_in}

-- what a taken line becomes under the stamp s: its record, whose end is reckoned at the stamp's reception, and the stamp
unfoldable pub slot_of : List ℕ → List ℕ → List ℕ
slot_of s l = record_of (reception_in s) l ++ s

-- a line that keeps the rules of a record, and a stamp of its actor's
unfoldable pub storable : List ℕ → List ℕ → Bool
storable s l = record_holds l && stamp_holds (actor l) s

-- a record takes a line over up to this position, the last of the column `filler`
abbrev pub line_least : ℕ
line_least = 127

-- a slot, a line and a stamp of which a used slot can be made
unfoldable pub fits : List ℕ → List ℕ → List ℕ → Bool
fits s l slot = eqb (length slot) slot_length && leb line_least (length l) && eqb (length s) stamp_length

-- the slot with the record and the stamp in it; where they do not fit it stays as it was
unfoldable pub written : List ℕ → List ℕ → List ℕ → List ℕ
written s l slot = cond (fits s l slot) (slot_of s l) slot

-- the register with the record and the stamp in slot i; where there is no such slot it stays as it was
unfoldable pub put_record : ℕ → List ℕ → List ℕ → List ℕ → List ℕ
put_record i s l b = cond (ltb i (slots_in b)) (put_part slot_length i (written s l (part_at slot_length i b)) b) b
