-- Which file touched an account: the stamps after an accepted import or update, and what a lookup hands back. Assumes nothing.
use Rattle.std.specs.Prelude.{◌≡◌, true, false, List, map, ℕ, ◌≤◌, length}
use Rattle.std.proofs.Math.Path.{refl}
use Rattle.std.proofs.Common.{sym, ◌∙◌}
use borrow.Author.Tests.{not-false, ltb-false}
use Rattle.theory.specs.First.{None, none, more, first}
use Rattle.theory.specs.laws.First.{first_clear, numbered}
use Rattle.theory.specs.laws.Stopped.{at_success, by_neither}
use Rattle.theory.specs.Same.{mem}
use Rattle.theory.specs.Each.{Each}
use Rattle.theory.specs.laws.Each.{each_map}
use Rattle.theory.specs.Pick.{good, pick}
use Rattle.theory.specs.laws.Parts.{length_part}
use Rattle.times.specs.Time.{real_time}
use Rattle.times.specs.laws.Moment.{real_length}
use Rattle.columns.specs.Columns.{actor, pan_of}
use Rattle.sizes.specs.Sizes.{slot_length, time_length}
use Rattle.sequences.specs.Sequence.{list_length, sequence}
use Rattle.sequences.specs.laws.Length.{sequence_length}
use Rattle.stamps.specs.Stamp.{stamp_in, stamp, Carries, stamp_holds}
use Rattle.stamps.specs.laws.Stamp.{stamp_list, stamp_reception}
use Rattle.records.specs.Slot.{slot_of}
use Rattle.hgv.specs.Layout.{lines_of}
use Rattle.header.specs.Header.{sender, list_sequence}
use Rattle.header.specs.laws.Header.{header_list}
use Rattle.slots.specs.Slots.{slots_in, records}
use Rattle.register.specs.Register.{in_order}
use Rattle.register.specs.laws.Register.{ordered, used_stamped}
use Rattle.verdicts.specs.Verdict.{taken}
use Rattle.applying.specs.laws.Touched as applying
use Rattle.imports.specs.Imported.{Imported}
use Rattle.imports.specs.Handed.{Handed}
use Rattle.imports.specs.Import.{judged, file_stamp, following, import_number}
use Rattle.importer.specs.Promises.{Import}
use Rattle.imports.specs.laws.Numbers.{Formed, accepted_clear, formed_received}
use Rattle.imports.specs.laws.Accepted.{lines_storable}
use Rattle.imports.proofs.Follows.{fit}
use Rattle.lookups.specs.Lookup.{pan_number, pan_place, plate_number, plate_place}
use Rattle.lookups.specs.Promises.{ByPan, ByPlate}
use Rattle.lookups.specs.laws.Found.{pan_fits, pan_part, plate_fits, plate_part}
use Rattle.applying.specs.Fit.{Fit}
use Rattle.applying.specs.laws.Follows.{follows}
use Rattle.answers.specs.Layout.{list_of}
use Rattle.receipts.specs.Receipt.{taken_by, receipt_holds}
use Rattle.provider.specs.Counted.{Counted}
use Rattle.provider.specs.laws.Held.{list_held}
use Rattle.updating.specs.Sent.{Sent}
use Rattle.copies.specs.Copy.{copy_stops}
use Rattle.updating.specs.Update.{sent_stamp, copy_following, receipt_stops, update_number, copy_written, copy_after, received_at, sent_holds}
use Rattle.updating.specs.Promises.{Update}
use Rattle.copies.specs.laws.Sound.{Sound, copy_sound}
use Rattle.updating.specs.laws.Fits.{receipt_holds_lem, received_real, lines_storable as sent_storable, taken_fit}
use Rattle.demands.specs.Verdicts.{Verdicts}
use Rattle.demands.specs.laws.Answered.{update_is}
use Rattle.demands.specs.laws.Imports.{number_0}
use Rattle.demands.specs.laws.Judging.{judged_is}
use Rattle.demands.specs.laws.Exact.{holds}

-- each record of a register in order has a stamp of its actor's
pub each_stamped : (b : List ℕ) → in_order b ≡ true → Each (λ x. stamp_holds (actor x) (stamp_in x) ≡ true) (records b)
each_stamped b h = each_map (λ x u. used_stamped x u) (ordered b h).used

-- ---- a lookup

module _ (b part : List ℕ) (number : ℕ) where
  pub pan_long : (key : List ℕ) → ByPan b key part number → number ≡ 0 → length part ≡ slot_length
  pan_long key (n, p) z =
      let e : pan_number b key ≡ 0 = sym n ∙ z in
      rw (p, ← pan_part b key e) (length_part slot_length (pan_place b key) b (pan_fits b key e))

  pub plate_long : (p n t : List ℕ) → ByPlate b p n t part number → number ≡ 0 → length part ≡ slot_length
  plate_long p n t (m, q) z =
      let e : plate_number b p n t ≡ 0 = sym m ∙ z in
      rw (q, ← plate_part b p n t e) (length_part slot_length (plate_place b p n t) b (plate_fits b p n t e))

-- ---- an import

carries : (who list reception : List ℕ) → sequence who list ≡ true → real_time reception ≡ true → (x : List ℕ) → stamp_in x ≡ stamp list reception → Carries list reception x
carries who list reception s t x k =
    let n : length list ≡ list_length = sequence_length who list s in
    let m : length reception ≡ time_length = real_length reception t in
    rw k (stamp_list list reception n m, stamp_reception list reception n m)

module _ (f : Handed) (register : List ℕ) (r : Imported) (b g : List ℕ) (o : Import f register r b g) (z : r.number ≡ 0)
    (vs : List ℕ) (v : Verdicts f.rows (sender f.hgv) (records register) (lines_of f.hgv) vs) where
  e : import_number f register ≡ 0
  e = number_0 f register r b g o z

  c : Formed f register
  c = accepted_clear f register e

  abbrev ls : List (List ℕ)
  ls = taken (judged register f.rows f.hgv) f.hgv

  lines_are : ls ≡ pick good vs (lines_of f.hgv)
  unfolding taken
  lines_are = rw (judged_is register f.rows f.hgv vs v)

  pub touched : Each (λ x. mem (pan_of x) (map pan_of (pick good vs (lines_of f.hgv))) ≡ true → Carries (list_sequence f.hgv) f.reception x) (records b)
  unfolding following
  touched =
      rw (← lines_are, (holds f register r b g o z).held)
      (each_map (λ x k t. carries (sender f.hgv) (list_sequence f.hgv) f.reception (header_list f.hgv c.headed) (formed_received f register c) x (k t))
      (applying.each_stamped f.mode (sender f.hgv) (file_stamp f) (slots_in register) (records register) ls (fit f register e) (ordered register c.ordered).apart (lines_storable f register c)))

  pub untouched : Each (λ x. mem (pan_of x) (map pan_of (pick good vs (lines_of f.hgv))) ≡ false → mem x (records register) ≡ true) (records b)
  unfolding following
  untouched =
      rw (← lines_are, (holds f register r b g o z).held)
      (applying.untouched f.mode (sender f.hgv) (slot_of (file_stamp f)) (slots_in register) (records register) ls (fit f register e) (ordered register c.ordered).apart)

-- ---- an update

module _ (s : Sent) (copy : List ℕ) (u : Counted) (c : List ℕ) (o : Update s copy u c) (z : u.number ≡ 0) where
  n : update_number s copy ≡ 0
  n = sym (update_is s copy u c o) ∙ z

  neither : (first (copy_stops s.mode copy s.hgv) ≡ 0) × (first (receipt_stops s copy) ≡ 0)
  unfolding update_number copy_stops numbered
  neither = by_neither (copy_stops s.mode copy s.hgv) (receipt_stops s copy) refl n

  sound : Sound copy s.hgv
  sound = copy_sound s.mode copy s.hgv neither.0

  held : (sent_holds s ≡ true) × (length (copy_following s copy) ≤ slots_in copy)
  unfolding receipt_stops numbered
  held = go (first_clear (receipt_stops s copy) refl neither.1)
    where
      go : None (receipt_stops s copy) → (sent_holds s ≡ true) × (length (copy_following s copy) ≤ slots_in copy)
      go (more a (more b none)) = (not-false (sent_holds s) a, ltb-false (slots_in copy) (length (copy_following s copy)) b)

  receipt : receipt_holds s.hgv s.hgc ≡ true
  receipt = receipt_holds_lem s.mode s.offset s.hgv s.hgc sound.headed held.0

  received : real_time (received_at s) ≡ true
  received = received_real s.mode s.offset s.hgv s.hgc sound.headed held.0

  abbrev ms : List (List ℕ)
  ms = taken_by s.hgv s.hgc

  fits : Fit s.mode (sender s.hgv) (slot_of (sent_stamp s)) (slots_in copy) (records copy) ms
  fits = taken_fit s.mode s.offset s.hgv s.hgc sound.headed held.0 copy sound.own held.1

  follows_held : records c ≡ copy_following s copy
  unfolding Update copy_after copy_written copy_following
  follows_held =
      rw (o.1, at_success (update_number s copy) (copy_written s copy) copy n)
      (follows s.mode (sender s.hgv) (slot_of (sent_stamp s)) copy ms sound.ordered fits).held

  pub update_touched : Each (λ x. mem (pan_of x) (map pan_of ms) ≡ true → Carries (list_of s.hgc) (received_at s) x) (records c)
  unfolding copy_following
  update_touched =
      rw follows_held
      (each_map (λ x k t. carries (sender s.hgv) (list_of s.hgc) (received_at s) (rw (list_held s.hgv s.hgc receipt) (header_list s.hgv sound.headed)) received x (k t))
      (applying.each_stamped s.mode (sender s.hgv) (sent_stamp s) (slots_in copy) (records copy) ms fits (ordered copy sound.ordered).apart (sent_storable s.mode s.offset s.hgv s.hgc sound.headed held.0)))

  pub update_untouched : Each (λ x. mem (pan_of x) (map pan_of ms) ≡ false → mem x (records copy) ≡ true) (records c)
  unfolding copy_following
  update_untouched =
      rw follows_held
      (applying.untouched s.mode (sender s.hgv) (slot_of (sent_stamp s)) (slots_in copy) (records copy) ms fits (ordered copy sound.ordered).apart)
