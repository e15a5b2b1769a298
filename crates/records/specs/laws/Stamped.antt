-- A record with its stamp behind it: the record's own laws hold in the slot, and the stamp is found there again.
-- Assumes nothing.
use Rattle.std.specs.Prelude.{◌≡◌, true, ◌&&◌, List, ℕ, ◌≤◌, leb, length}
use Rattle.std.proofs.Common.{◌∙◌, arith}
use Rattle.std.proofs.Math.ListN.{length-append}
use Rattle.theory.specs.Text.{bytes}
use Rattle.theory.specs.Every.{run}
use Rattle.theory.specs.Each.{Each}
use Rattle.theory.specs.laws.Each.{each_map, each_both}
use Rattle.theory.specs.laws.Same.{eqs_true}
use Rattle.theory.specs.laws.Truth.{and_left, and_right}
use Rattle.sizes.specs.Sizes.{slot_length, slot_end, stamp_length, stamp_from, time_length}
use Rattle.texts.specs.Field.{field, line_end}
use Rattle.texts.specs.laws.Field.{field_before, field_behind, field_all}
use Rattle.fields.specs.Field.{digit}
use Rattle.times.specs.Time.{real_time}
use Rattle.times.specs.laws.Moment.{real_length}
use Rattle.columns.specs.Columns.{actor, pan_of, weight}
use Rattle.vehicles.specs.Vehicle.{valid_to_holds}
use Rattle.lines.specs.Rules.{record_holds}
use Rattle.lines.specs.laws.Agree.{positions_within, record_agrees}
use Rattle.lines.specs.End.{record_of}
use Rattle.sequences.specs.Sequence.{sequence}
use Rattle.stamps.specs.Stamp.{stamp_in, reception_in, stamp, stamp_holds}
use Rattle.stamps.specs.laws.Stamp.{Stamped, stamped}
use Rattle.stamps.proofs.Held.{stamp_holds_lem}
use Rattle.slots.specs.Search.{of_actor}
use Rattle.records.specs.Slot.{slot_of, storable, line_least}
use Rattle.records.specs.laws.Written.{length_record, record_front, record_first, record_last}
use Rattle.records.specs.laws.Holds.{record_long, record_holds_lem}

module _ (s l : List ℕ) (h : storable s l ≡ true) where
  pub line_holds_lem : record_holds l ≡ true
  unfolding storable
  line_holds_lem = and_left (record_holds l) (stamp_holds (actor l) s) h

  pub stamp_his : stamp_holds (actor l) s ≡ true
  unfolding storable
  stamp_his = and_right (record_holds l) (stamp_holds (actor l) s) h

  -- the record in front
  abbrev r : List ℕ
  r = record_of (reception_in s) l

  t : Stamped (actor l) s
  t = stamped (actor l) s stamp_his

  pub long : line_least ≤ length l
  long = record_long l line_holds_lem

  pub sized : length s ≡ stamp_length
  sized = t.size

  dated : length (reception_in s) ≡ time_length
  dated = real_length (reception_in s) t.received

  size : length r ≡ slot_end
  size = length_record (reception_in s) l long dated

  pub slot_length_lem : length (slot_of s l) ≡ slot_length
  unfolding slot_of
  slot_length_lem = length-append r s ∙ omega (arith, size, sized)

  -- a field of the record is one of the slot
  pub slot_record : (a b : ℕ) → 1 ≤ a → a ≤ b → b ≤ slot_end → field a b (slot_of s l) ≡ field a b r
  unfolding slot_of
  slot_record a b i j k = field_before a b r s i j (omega (arith, size))

  -- the stamp is behind it
  pub slot_stamp : stamp_in (slot_of s l) ≡ s
  unfolding slot_of
  slot_stamp = field_behind stamp_from slot_length slot_end r s size (omega arith) ∙ field_all stamp_length s (omega (arith, sized))

  -- positions 2 to 100 are the line's
  slot_front : (a b : ℕ) → 2 ≤ a → a ≤ b → b ≤ 100 → field a b (slot_of s l) ≡ field a b l
  slot_front a b i j k = slot_record a b (omega arith) j (omega arith) ∙ record_front (reception_in s) l long dated a b i j k

  pub slot_pan : pan_of (slot_of s l) ≡ pan_of l
  slot_pan = slot_front 14 32 (omega arith) (omega arith) (omega arith)

  pub slot_actor : actor (slot_of s l) ≡ actor l
  slot_actor = slot_front 2 7 (omega arith) (omega arith) (omega arith)

  pub slot_first : field 1 1 (slot_of s l) ≡ bytes "1"
  slot_first = slot_record 1 1 (omega arith) (omega arith) (omega arith) ∙ record_first (reception_in s) l long dated

  pub slot_last : field slot_end slot_end (slot_of s l) ≡ line_end
  slot_last = slot_record slot_end slot_end (omega arith) (omega arith) (omega arith) ∙ record_last (reception_in s) l long dated

  within : (lo hi : ℕ) → 1 ≤ lo → hi ≤ slot_end → (a b : ℕ) → leb lo a && leb a b && leb b hi ≡ true → field a b (slot_of s l) ≡ field a b r
  within lo hi i j a b k = let p = positions_within lo hi a b k in slot_record a b (omega (arith, p.0)) p.1.0 (omega (arith, p.1.1))

  digits : run digit 4 (weight (slot_of s l)) ≡ run digit 4 (weight r)
  digits = rw (slot_record 97 100 (omega arith) (omega arith) (omega arith))

  valid : valid_to_holds (slot_of s l) ≡ valid_to_holds r
  unfolding valid_to_holds
  valid = rw (slot_record 101 114 (omega arith) (omega arith) (omega arith))

  pub slot_holds : record_holds (slot_of s l) ≡ true
  slot_holds =
      record_agrees r (slot_of s l) (within 2 96 (omega arith) (omega arith)) digits valid (within 115 127 (omega arith) (omega arith))
      ∙ record_holds_lem (reception_in s) l line_holds_lem t.received

-- the lines of a sender that keep the rules of a record can be stored under the stamp of a list of his
module _ (who list reception : List ℕ) (listed : sequence who list ≡ true) (received : real_time reception ≡ true) where
  one_storable : (l : List ℕ) → of_actor who l ≡ true → record_holds l ≡ true → storable (stamp list reception) l ≡ true
  unfolding storable of_actor
  one_storable l a h = rw (h, eqs_true (actor l) who a, stamp_holds_lem who list reception listed received)

  pub each_storable : {ls : List (List ℕ)} → Each (λ l. of_actor who l ≡ true) ls → Each (λ l. record_holds l ≡ true) ls → Each (λ l. storable (stamp list reception) l ≡ true) ls
  each_storable his hold = each_map (λ l k. one_storable l k.0 k.1) (each_both his hold)
