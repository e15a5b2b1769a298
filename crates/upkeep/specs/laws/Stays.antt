-- A register in order stays in order (T9's part): what is written into a slot is a used slot, and a record replaced by one
-- with its PAN, a record with a new PAN added, and records closed up leave a register in order, with the records that
-- follow. Assumes nothing.
use Rattle.std.specs.Prelude.{◌≡◌, true, false, ℕ, ◌*◌, ◌≤◌, ◌<◌, length, take, drop, get_or, set}
use Rattle.std.proofs.Math.Path.{refl}
use Rattle.std.proofs.Common.{ap, ◌∙◌, arith, length-append, length-set}
use mathlib.Core.List.{List, [], ◌∷◌, ◌++◌, map, map-append}
use Rattle.std.proofs.Math.Seq.{map-set_same}
use Rattle.theory.specs.Text.{bytes}
use Rattle.theory.specs.Same.{mem}
use Rattle.theory.specs.laws.Same.{eqs_refl}
use Rattle.theory.specs.Each.{Each, none, more}
use Rattle.theory.specs.laws.Each.{each_append, each_set}
use Rattle.theory.specs.Pick.{good, pick}
use Rattle.theory.specs.laws.Pick.{all_pick, pick_length}
use Rattle.theory.specs.Distinct.{distinct}
use Rattle.theory.specs.laws.Distinct.{distinct_append, distinct_pick}
use Rattle.theory.specs.Join.{flat}
use Rattle.theory.specs.Put.{put_part}
use Rattle.theory.specs.Pad.{pad}
use Rattle.theory.specs.laws.Pad.{put_pad, push_pad}
use Rattle.sizes.specs.Sizes.{slot_length, slots_most}
use Rattle.texts.specs.Field.{line_end}
use Rattle.columns.specs.Columns.{pan_of}
use Rattle.records.specs.Slot.{slot_of, storable, put_record}
use Rattle.records.specs.laws.Stamped.{stamp_his, long, sized, slot_actor, slot_first, slot_last, slot_holds, slot_stamp}
use Rattle.records.specs.laws.Slot.{put_there}
use Rattle.closing.specs.Closing.{closed_up}
use Rattle.closing.specs.laws.Closing.{closed_front}
use Rattle.slots.specs.Slots.{slots_in, marked, records, used_in}
use Rattle.slots.specs.laws.Slots.{used_most}
use Rattle.register.specs.Register.{used_form, in_order}
use Rattle.register.specs.laws.Register.{Ordered, ordered, slots_pad, records_pad, order_pad}
use Rattle.upkeep.specs.Holds.{Holds}

-- ---- what is written

module _ (s l : List ℕ) (h : storable s l ≡ true) where
  pub written_used : used_form (slot_of s l) ≡ true
  unfolding used_form marked
  written_used =
      rw (
        slot_first s l h,
        slot_last s l h,
        slot_holds s l h,
        slot_actor s l h,
        slot_stamp s l h,
        stamp_his s l h,
        eqs_refl (bytes "1"),
        eqs_refl line_end,
      )

  -- and a writer of such a line writes it where there is a slot
  pub written_put : (i : ℕ) (b : List ℕ) → i < slots_in b → put_record i s l b ≡ put_part slot_length i (slot_of s l) b
  written_put = put_there s l (long s l h) (sized s l h)

-- ---- the register after

holds : (n : ℕ) {R : List (List ℕ)} → Each (λ r. length r ≡ slot_length) R → Each (λ r. used_form r ≡ true) R → distinct (map pan_of R) ≡ true → length R ≤ n → n ≤ slots_most
    → (b : List ℕ) → b ≡ flat (pad slot_length n R) → Holds n R b
holds n z u d l m b e = record { order = rw e (order_pad n z l u d m); held = rw e (records_pad n z l u); bytes = e; many = rw e (slots_pad n z l) }

-- what holds them is their bytes and free slots
pub as_bytes : (n : ℕ) (R : List (List ℕ)) (b : List ℕ) → Holds n R b → Holds n R (flat (pad slot_length n R))
as_bytes n R b h = rw (← h.bytes) h

module _ (b : List ℕ) (h : in_order b ≡ true) where
  o : Ordered b
  o = ordered b h

  -- it holds its own records
  pub as_it_is : Holds (slots_in b) (records b) b
  as_it_is = record { order = h; held = refl; bytes = o.padded; many = refl }

  module _ (x : List ℕ) (w : length x ≡ slot_length) (f : used_form x ≡ true) where
    -- a record replaced by one with its PAN
    pub replaced : (i : ℕ) → i < used_in b → pan_of x ≡ pan_of (get_or (records b) i []) → Holds (slots_in b) (set (records b) i x) (put_part slot_length i x b)
    replaced i k e =
        let R : List (List ℕ) = records b in
        holds (slots_in b) (each_set o.sized i x w) (each_set o.used i x f) (rw (map-set_same pan_of R i x [] e) o.apart)
        (rw (length-set R i x) (used_most b)) o.most (put_part slot_length i x b)
        (ap (put_part slot_length i x) o.padded ∙ put_pad slot_length (slots_in b) o.sized (used_most b) i x k w)

    -- a record with a PAN that none has, in the first free slot
    pub added : used_in b < slots_in b → mem (pan_of x) (map pan_of (records b)) ≡ false → Holds (slots_in b) (records b ++ x ∷ []) (put_part slot_length (used_in b) x b)
    unfolding distinct mem
    added k e =
        let R : List (List ℕ) = records b in
        holds (slots_in b) (each_append o.sized (more w none)) (each_append o.used (more f none))
        (rw (map-append pan_of R (x ∷ [])) (distinct_append (map pan_of R) (pan_of x ∷ []) o.apart refl (more e none)))
        (rw (length-append R (x ∷ [])) (omega arith)) o.most (put_part slot_length (used_in b) x b)
        (ap (put_part slot_length (used_in b) x) o.padded ∙ push_pad slot_length (slots_in b) o.sized x k w)

  -- the used part closed up over its marks, and the free slots behind it as they were
  pub closed : (marks : List ℕ)
      → Holds (slots_in b) (pick good marks (records b)) (closed_up slot_length marks (take (used_in b * slot_length) b) ++ drop (used_in b * slot_length) b)
  closed marks =
      let R : List (List ℕ) = records b in
      let k : ℕ = used_in b * slot_length in
      holds (slots_in b) (all_pick good marks o.sized) (all_pick good marks o.used) (distinct_pick pan_of good marks R o.apart)
      (omega (arith, pick_length good marks R, used_most b)) o.most (closed_up slot_length marks (take k b) ++ drop k b)
      (ap (λ (x : List ℕ). closed_up slot_length marks (take k x) ++ drop k x) o.padded
      ∙ closed_front slot_length (omega arith) o.sized marks (slots_in b) (used_most b))
