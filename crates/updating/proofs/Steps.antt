-- What the steps of the update leave, from what the pairing found. Assumes nothing.
use mathlib.Core.Path.{◌≡◌, refl, sym, ap, ◌∙◌}
use mathlib.Core.Bool.{Bool, true, false}
use mathlib.Core.List.{List}
use Prim.Native.Nat.{ℕ, ◌≤◌, ◌<◌}
use native.Mathlib.Omega.{arith}
use lib.IntN.{ℤ}
use lib.ListN.{length}
use lib.Dec.{leb}
use borrow.Author.Tests.{leb-false}
use Rattle.theory.specs.First.{first}
use Rattle.theory.specs.Each.{Each}
use Rattle.theory.specs.laws.Truth.{and_left, and_right, and_none}
use Rattle.std.specs.Prelude.{Ok, Err}
use Rattle.rules.specs.declared.refusal.Refusal.{Refusal}
use Rattle.rules.specs.declared.refusal.Refusal.TheVariants as refusal
use Rattle.rules.specs.Numbers.{refusal_number, required}
use Rattle.rules.specs.laws.Numbers.{refusal_some, broken}
use Rattle.header.specs.Header.{sender, list_sequence, header_holds}
use Rattle.header.specs.laws.Header.{header_list}
use Rattle.sizes.specs.Sizes.{slots_most, lines_most, time_length}
use Rattle.times.specs.Seconds.{is_real}
use Rattle.times.specs.laws.Moment.{real_length}
use Rattle.offsets.specs.Offset.{offset_holds, utc_time, utc, utc_holds}
use Rattle.offsets.specs.Ahead.{ahead_most, offset_of}
use Rattle.offsets.specs.laws.Shift.{offset_in, utc_asked}
use Rattle.sequences.specs.Sequence.{list_length}
use Rattle.sequences.specs.laws.Length.{sequence_length}
use Rattle.stamps.specs.Stamp.{stamp}
use Rattle.records.specs.Slot.{slot_of, storable}
use Rattle.taken.specs.Taken.{taken_in}
use Rattle.hgv.specs.Layout.{width_of, lines_in, body, lines_of}
use Rattle.hgv.specs.laws.Layout.{lines_most_lem}
use Rattle.slots.specs.Slots.{slots_in, records, used_in}
use Rattle.register.specs.Register.{in_order}
use Rattle.slots.specs.laws.Slots.{used_most}
use Rattle.register.specs.laws.Register.{ordered}
use Rattle.holdings.specs.Holdings.{holdings}
use Rattle.holdings.specs.Room.{used_by}
use Rattle.holdings.specs.laws.Room.{used_by_lem}
use Rattle.holdings.specs.Places.{places_after}
use Rattle.holdings.specs.laws.Places.{places_tell, length_places}
use Rattle.upkeep.specs.Holds.{Holds}
use Rattle.applying.specs.Fit.{Fit, Sought}
use Rattle.pairing.specs.Backwards.{paired}
use Rattle.answers.specs.Layout.{list_of, reception_of}
use Rattle.receipts.specs.Receipt.{texts_of, copies_of, marks_of, taken_by, receipt_holds}
use Rattle.taken.specs.declared.Counts.{Counts}
use Rattle.provider.specs.Counted.{told}
use Rattle.provider.specs.Answer.{success_counts}
use Rattle.provider.specs.laws.Told.{told_refused}
use Rattle.updating.specs.Sent.{sent}
use Rattle.copies.specs.Copy.{copy_stops}
use Rattle.updating.specs.Update.{copy_following, sent_holds, update_number, copy_written}
use Rattle.updating.specs.Promises.{Update}
use Rattle.copies.specs.laws.Sound.{copy_sound}
use Rattle.updating.specs.laws.Numbers.{update_copy, update_52, update_33, update_done, update_refused, copy_stays, update_counted, copy_updated}
use Rattle.updating.specs.laws.Fits.{receipt_holds_lem, received_real, lines_storable, following_used, taken_fit}
use Rattle.provider.specs.laws.Held.{length_marks_of, list_held, marks_fit}

-- n lines have room in a block for the most that there may be
pub copy_most : (mode : ℕ) (copy h : List ℕ) → 0 ≡ first (copy_stops mode copy h) → (n : ℕ) → n ≡ lines_in h → n ≤ lines_most
copy_most mode copy h z n f = rw f (lines_most_lem h (copy_sound mode copy h (sym z)).sized)

-- its reception has a UTC time, where the offset is so many minutes ahead
pub utc_is : (ahead : ℕ) (g : List ℕ) → ahead ≤ ahead_most → is_real (utc_time (offset_of ahead) (reception_of g)) ≡ utc_holds (offset_of ahead) (reception_of g)
utc_is ahead g few = utc_asked (offset_of ahead) (reception_of g) (offset_in ahead few)

-- a refusal leaves the copy
module _ (mode : ℕ) (o : ℤ) (copy h g : List ℕ) where
  refused : (f : Refusal) → refusal_number f ≡ update_number (sent mode o h g) copy → Update (sent mode o h g) copy (told (Err f)) copy
  unfolding Update
  refused f n = (told_refused f ∙ update_refused mode o copy h g _ n (refusal_some f), copy_stays mode o copy h g _ n (refusal_some f))

  pub copy_stopped : (f : Refusal) → refusal_number f ≡ first (copy_stops mode copy h) → Update (sent mode o h g) copy (told (Err f)) copy
  copy_stopped f e = refused f (update_copy mode o copy h g _ e (refusal_some f))

  module _ (z : first (copy_stops mode copy h) ≡ 0) (b : Bool) (f : Refusal) where
    -- 52
    pub not_sent : b ≡ sent_holds (sent mode o h g) → Err f ≡ required b refusal.Hgc → Update (sent mode o h g) copy (told (Err f)) copy
    not_sent e k = let x = broken b refusal.Hgc f k in rw x.1 (refused refusal.Hgc (update_52 mode o copy h g z (sym e ∙ x.0)))

    -- also where the offset is out of range
    pub not_offset : b ≡ offset_holds o → Err f ≡ required b refusal.Hgc → Update (sent mode o h g) copy (told (Err f)) copy
    unfolding sent_holds utc_holds
    not_offset e k =
        let x = broken b refusal.Hgc f k in
        not_sent (x.0 ∙ sym (rw (sym e ∙ x.0) (and_none (receipt_holds h g) false refl))) k

-- ms are the marks of an HGC that is sent so
pub marked : (mode : ℕ) (o : ℤ) (h g : List ℕ) → sent_holds (sent mode o h g) ≡ true → (ms : List ℕ) → ms ≡ paired (texts_of h) (copies_of h g) → ms ≡ marks_of h g
unfolding sent_holds
marked mode o h g k = marks_fit h g (and_left (receipt_holds h g) (utc_holds o (reception_of g)) k)

-- the UTC time can be written: t is the HGC's reception
pub utc_fits : (mode : ℕ) (o : ℤ) (h g : List ℕ) → sent_holds (sent mode o h g) ≡ true → (t : List ℕ) → t ≡ reception_of g → is_real (utc_time o t) ≡ true
unfolding sent_holds utc_holds
utc_fits mode o h g k t e =
    rw e (and_right (offset_holds o) (is_real (utc_time o (reception_of g))) (and_right (receipt_holds h g) (utc_holds o (reception_of g)) k))

-- o is the offset
module _ (mode : ℕ) (o : ℤ) (copy h g : List ℕ) (z : first (copy_stops mode copy h) ≡ 0) (said : sent_holds (sent mode o h g) ≡ true) where
  headed : header_holds h ≡ true
  headed = (copy_sound mode copy h z).headed

  -- ms are the marks, from is the sender, and ls has n lines of width w
  module _ (ms : List ℕ) (em : ms ≡ marks_of h g) (from ls : List ℕ) (w n : ℕ) (ef : from ≡ sender h) (el : (ls ≡ body h) × (w ≡ width_of h) × (n ≡ lines_in h)) where
    marks_each : length ms ≡ lines_in h
    marks_each = ap length em ∙ length_marks_of h g

    pub lines_fit : length ms ≤ n
    lines_fit = omega (arith, marks_each, el.2)

    pub used_few : used_in copy ≤ slots_most
    used_few = omega (arith, used_most copy, (ordered copy (copy_sound mode copy h z).ordered).most)

    lines_are : taken_in w ms ls ≡ taken_by h g
    unfolding taken_by lines_of
    lines_are = rw (marks_each, el.0, el.1, em)

    pub as_many : (m : ℕ) → m ≡ lines_in h → m ≡ length ms
    as_many m e = e ∙ sym marks_each

    -- found₀ is the block before, and `found` what was found
    module _ (found₀ found : List ℕ) (m : length found₀ ≡ lines_in h) (f : found ≡ places_after mode (records copy) w ls ms found₀) where
      pub sought : Sought mode (records copy) w ls ms found
      sought =
          record {
            many = length_places mode (records copy) w ls ms found₀ found f (as_many (length found₀) m);
            places = places_tell mode (records copy) w ls ms found₀ found f;
          }

      -- u slots would be used
      module _ (u : ℕ) (eu : u ≡ used_by mode from (records copy) ms found) where
        used_is : u ≡ length (copy_following (sent mode o h g) copy)
        used_is =
            eu ∙ used_by_lem mode from (records copy) w ls ms found sought.many sought.places
            ∙ rw (lines_are, ef) (following_used mode o h g headed said copy)

        -- 33
        pub not_room : (f : Refusal) → Err f ≡ required (leb u (slots_in copy)) refusal.Slots → Update (sent mode o h g) copy (told (Err f)) copy
        not_room f k =
            let x = broken _ refusal.Slots f k in
            let l : slots_in copy < u = leb-false u (slots_in copy) x.0 in
            rw x.1 (refused mode o copy h g refusal.Slots (update_33 mode o copy h g z said (rw (← used_is) l)))

        module _ (l : u ≤ slots_in copy) (list : List ℕ) (es : list ≡ list_of g) (reception : List ℕ) (ec : reception ≡ utc o (reception_of g)) where
          room : length (copy_following (sent mode o h g) copy) ≤ slots_in copy
          room = omega (arith, used_is)

          pub apply_fits : record {
            lined : length ms ≤ n;
            ordered : in_order copy ≡ true;
            listed : length list ≡ list_length;
            received : length reception ≡ time_length;
            kept : Each (λ l. storable (stamp list reception) l ≡ true) (taken_in w ms ls);
            fit : Fit mode from (slot_of (stamp list reception)) (slots_in copy) (records copy) (taken_in w ms ls);
            sought : Sought mode (records copy) w ls ms found;
          }
          apply_fits =
              let s = copy_sound mode copy h z in
              let t = receipt_holds_lem mode o h g headed said in
              record {
                lined = lines_fit;
                ordered = s.ordered;
                listed = rw (es, list_held h g t) (sequence_length (sender h) (list_sequence h) (header_list h headed));
                received = rw ec (real_length (utc o (reception_of g)) (received_real mode o h g headed said));
                kept = rw (lines_are, es, ec) (lines_storable mode o h g headed said);
                fit = rw (lines_are, ef, es, ec) (taken_fit mode o h g headed said copy s.own room);
                sought = sought;
              }

          pub update_whole : (a : Counts) → told (Ok a) ≡ success_counts h g
              → (b : List ℕ) → Holds (slots_in copy) (holdings mode from (slot_of (stamp list reception)) (records copy) (taken_in w ms ls)) b
              → Update (sent mode o h g) copy (told (Ok a)) b
          unfolding Update copy_written copy_following
          update_whole a e b f =
              let n = update_done mode o copy h g z said room in
              (e ∙ update_counted mode o copy h g n, f.bytes ∙ rw (lines_are, ef, es, ec) (copy_updated mode o copy h g n))
