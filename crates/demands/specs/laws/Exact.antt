-- What any outcome of an accepted import has: its counts, the register and the HGC after it, and what is read back of it, each told
-- by the verdicts of the file's lines (T7, T9, T10, T11). Assumes nothing.
use Rattle.std.specs.Prelude.{◌≡◌, true, List, [], ◌++◌, map, ℕ, ◌+◌, ◌≤◌, ◌<◌, length, take, drop, get_or}
use Rattle.std.proofs.Math.Path.{refl, sym, ap}
use Rattle.std.proofs.Common.{◌∙◌, arith}
use Rattle.std.proofs.Math.Bool.{false}
use Rattle.theory.specs.Parts.{part_at}
use Rattle.theory.specs.Pick.{good, bad, pick}
use Rattle.theory.specs.Tally.{tally}
use Rattle.theory.specs.Join.{flat}
use Rattle.theory.specs.laws.Join.{get_d_chop}
use Rattle.theory.specs.Pad.{pad}
use Rattle.numbers.specs.Number.{number}
use Rattle.records.specs.Slot.{slot_of}
use Rattle.hgv.specs.Layout.{lines_in, lines_of}
use Rattle.header.specs.Header.{sender, count}
use Rattle.sizes.specs.Sizes.{slot_length}
use Rattle.slots.specs.Slots.{slots_in, records, used_in}
use Rattle.register.specs.Register.{in_order}
use Rattle.slots.specs.Search.{of_actor}
use Rattle.slots.specs.laws.Slots.{records_chop}
use Rattle.verdicts.specs.Verdict.{taken}
use Rattle.hgc.specs.Confirmation.{confirmation}
use Rattle.holdings.specs.Holdings.{others, holdings}
use Rattle.sizes.specs.Modes.{is_full}
use Rattle.holdings.specs.laws.Storing.{all_grows}
use Rattle.upkeep.specs.Holds.{Holds}
use Rattle.imports.specs.Imported.{Imported}
use Rattle.imports.specs.Import.{judged, file_stamp, following, confirmed, import_number, success, hgc_written, shown}
use Rattle.importer.specs.Promises.{Import}
use Rattle.imports.specs.laws.Numbers.{accepted_clear}
use Rattle.imports.proofs.Room.{accepted_passed}
use Rattle.imports.specs.laws.Follows.{adds_up}
use Rattle.imports.proofs.Follows.{holds_following, others_same, places_same}
use Rattle.provider.specs.Counted.{Counted}
use Rattle.reading.specs.Promises.{ReadBack}
use Rattle.demands.specs.Weighed.{own_counts}
use Rattle.demands.specs.laws.Sound.{sound_today}
use Rattle.demands.specs.laws.Read.{read_sound}
use Rattle.demands.specs.laws.Weighed.{hgc_cut}
use Rattle.imports.specs.Handed.{Handed}
use Rattle.demands.specs.laws.Imports.{number_0, done_is, register_is, hgc_is}
use Rattle.demands.specs.Verdicts.{Verdicts}
use Rattle.demands.specs.laws.Judging.{judged_is}

-- a record is the part at its place
record_at : (b : List ℕ) (i : ℕ) → i < used_in b → part_at slot_length i b ≡ get_or (records b) i []
record_at b i l = sym (ap (λ (R : List (List ℕ)). get_or R i []) (records_chop b) ∙ get_d_chop slot_length (used_in b) b i l)

module _ (f : Handed) (register : List ℕ) (r : Imported) (b g : List ℕ) (o : Import f register r b g) (z : r.number ≡ 0) where
  abbrev from : List ℕ
  from = sender f.hgv

  e : import_number f register ≡ 0
  e = number_0 f register r b g o z

  pub holds : Holds (slots_in register) (following f register) b
  holds = rw (register_is f register r b g o z) (holds_following f register e)

  -- ---- the counts

  pub counts_add_up : r.taken + r.rejected ≡ number (count f.hgv)
  unfolding success
  counts_add_up = rw (done_is f register r b g o z) (adds_up f register e)

  -- ---- the register

  pub order_again : in_order b ≡ true
  order_again = holds.order

  -- the records, and free slots behind them
  pub bytes_are : b ≡ flat (pad slot_length (slots_in register) (records b))
  bytes_are = rw holds.held holds.bytes

  pub others_are : others from (records b) ≡ others from (records register)
  others_are = rw holds.held (others_same f register e)

  -- incremental: no record goes
  used_grows : is_full f.mode ≡ false → used_in register ≤ used_in b
  unfolding following holdings
  used_grows m =
      rw (holds.held, m) (all_grows (map (slot_of (file_stamp f)) (taken (judged register f.rows f.hgv) f.hgv)) (records register))

  pub places_are : f.mode ≡ 1 → (i : ℕ) → i < used_in register → of_actor from (part_at slot_length i register) ≡ false → part_at slot_length i b ≡ part_at slot_length i register
  unfolding is_full
  places_are m i l k =
      let w : is_full f.mode ≡ false = rw m refl in
      record_at b i (omega (arith, used_grows w))
      ∙ rw holds.held (places_same f register e w i l (rw (← record_at register i l) k))
      ∙ sym (record_at register i l)

  -- ---- by the verdicts of the lines

  module _ (vs : List ℕ) (v : Verdicts f.rows from (records register) (lines_of f.hgv) vs) where
    verdicts_are : judged register f.rows f.hgv ≡ vs
    verdicts_are = judged_is register f.rows f.hgv vs v

    pub taken_is : r.taken ≡ tally good vs
    unfolding success
    taken_is = ap (λ (a : Imported). a.taken) (done_is f register r b g o z) ∙ ap (tally good) verdicts_are

    pub rejected_is : r.rejected ≡ tally bad vs
    unfolding success
    rejected_is = ap (λ (a : Imported). a.rejected) (done_is f register r b g o z) ∙ ap (tally bad) verdicts_are

    pub records_are : records b ≡ holdings f.mode from (slot_of (file_stamp f)) (records register) (pick good vs (lines_of f.hgv))
    unfolding following taken
    records_are = holds.held ∙ rw verdicts_are

    pub length_is : r.length ≡ length (confirmation (shown f) f.hgv vs)
    unfolding success confirmed
    length_is = ap (λ (a : Imported). a.length) (done_is f register r b g o z) ∙ rw verdicts_are

    pub buffer_is : g ≡ confirmation (shown f) f.hgv vs ++ drop r.length f.hgc
    unfolding hgc_written confirmed
    buffer_is = hgc_is f register r b g o z ∙ rw (verdicts_are, length_is)

    -- ---- read back, by any outcome of it

    module _ (block : List ℕ) (u : Counted) (w : List ℕ) (p : ReadBack f.hgv (take r.length g) block u w) where
      pub read_is : lines_in f.hgv ≤ length block → (u ≡ record { number = 0; taken = r.taken; rejected = r.rejected }) × (w ≡ vs ++ drop (lines_in f.hgv) block)
      unfolding own_counts confirmed
      read_is m =
          rw (taken_is, rejected_is, ← verdicts_are)
          (read_sound f register (judged register f.rows f.hgv) (sound_today f register (accepted_clear f register e) (accepted_passed f register e).slots) block u w (rw (hgc_cut f register r b g o z) at p) m)
