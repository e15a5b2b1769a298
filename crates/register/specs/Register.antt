-- The register: slots, used and free, and what "in order" means (stop 23). Every definition takes a block of any length.
-- Assumes nothing.
use Rattle.std.specs.Prelude.{ℕ, ◌%◌, Bool, ◌&&◌, List, map, eqb, leb, length, drop}
use Rattle.theory.specs.Same.{eqs}
use Rattle.theory.specs.Every.{run}
use Rattle.theory.specs.Walk.{each}
use Rattle.theory.specs.Distinct.{distinct}
use Rattle.sizes.specs.Sizes.{slot_length, slot_end, slots_most}
use Rattle.texts.specs.Field.{field, line_end}
use Rattle.fields.specs.Field.{zero_byte}
use Rattle.columns.specs.Columns.{actor, pan_of}
use Rattle.lines.specs.Rules.{record_holds}
use Rattle.stamps.specs.Stamp.{stamp_in, stamp_holds}
use Rattle.slots.specs.Slots.{slots_in, slots_of, marked, records, used_in}

-- a used slot is a record (`1`, 126 bytes as body positions 2-127, LF; six-digit actor, and L1, L5 to L10 hold, but for the
-- limits of weight) and a stamp of its actor's
unfoldable pub used_form : List ℕ → Bool
used_form s = marked s && record_holds s && eqs (field slot_end slot_end s) line_end && stamp_holds (actor s) (stamp_in s)

-- a free slot is zero bytes, as many as a slot has
unfoldable pub free_form : List ℕ → Bool
free_form s = run zero_byte slot_length s

-- whole slots within the limit
abbrev pub whole : List ℕ → Bool
whole b = eqb (length b % slot_length) 0 && leb (slots_in b) slots_most

-- in order: whole slots within the limit, used slots first, all PANs different, the rules hold in each
unfoldable pub in_order : List ℕ → Bool
in_order b =
    eqb (length b % slot_length) 0 && leb (slots_in b) slots_most
    && each used_form (records b) && each free_form (drop (used_in b) (slots_of b))
    && distinct (map pan_of (records b))
