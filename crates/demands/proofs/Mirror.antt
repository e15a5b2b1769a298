-- T12: a provider who applies what an accepted import of his sent back is answered 0 with the import's own counts, and his
-- copy holds again the records held for him. Another's import, and a refused one, leave them as they are. Assumes nothing.
use Rattle.std.specs.Prelude.{◌≡◌, true, false, List, ℕ, ◌≤◌, length}
use Rattle.std.proofs.Common.{sym, ◌∙◌}
use borrow.Author.Tests.{le-ltb}
use Rattle.records.specs.Slot.{slot_of}
use Rattle.theory.specs.Same.{eqs}
use Rattle.theory.specs.First.{first, choose}
use Rattle.theory.specs.laws.Stopped.{at_success}
use Rattle.theory.specs.laws.Walk.{passes_each}
use Rattle.theory.specs.laws.Keep.{sift_passes}
use Rattle.header.specs.Header.{sender}
use Rattle.slots.specs.Slots.{slots_in, records}
use Rattle.slots.specs.Search.{of_actor}
use Rattle.verdicts.specs.Verdict.{taken}
use Rattle.holdings.specs.Holdings.{others, holdings}
use Rattle.upkeep.specs.Holds.{Holds}
use Rattle.applying.specs.Fit.{Fit}
use Rattle.applying.specs.laws.Follows.{follows}
use Rattle.imports.specs.Handed.{Handed}
use Rattle.imports.specs.Import.{file_stamp, shown}
use Rattle.provider.specs.laws.Held.{list_held}
use Rattle.updating.specs.Sent.{Sent, sent}
use Rattle.offsets.specs.laws.Shift.{local_back, local_utc}
use Rattle.copies.specs.Copy.{own_holds, copy_stops}
use Rattle.updating.specs.Update.{copy_following, receipt_stops, update_number, update_answer, copy_written, copy_after, sent_holds}
use Rattle.demands.specs.Own.{own}
use Rattle.demands.specs.laws.Own.{own_holdings, fit_own, own_stays}
use Rattle.imports.specs.laws.Numbers.{Formed}
use Rattle.hgc.specs.Confirmation.{confirmation}
use Rattle.theory.specs.Join.{flat}
use Rattle.theory.specs.Pad.{pad}
use Rattle.sizes.specs.Sizes.{slot_length}
use Rattle.applying.specs.laws.Others.{others_stay}
use Rattle.demands.specs.Weighed.{following_by, own_counts}
use Rattle.demands.specs.laws.Sound.{Sound, fit}
use Rattle.demands.specs.laws.ReadBack.{reception_read, taken_are, receipt}
use Rattle.demands.specs.laws.Read.{addressed_receiver, counts_same}

-- his copy: in order, of as many slots as the register, and it holds his records, in our order, byte for byte
abbrev pub Mirrors : List ℕ → List ℕ → List ℕ → Type 0
Mirrors who register copy = Holds (slots_in register) (own who (records register)) copy

module _ (f : Handed) (register vs : List ℕ) (s : Sound f register vs) where
  -- the register after it
  abbrev after : List ℕ
  after = flat (pad slot_length (slots_in register) (following_by vs f register))

  -- is in order, and holds the records that follow
  pub after_holds : Holds (slots_in register) (following_by vs f register) after
  unfolding following_by
  after_holds = follows f.mode (sender f.hgv) (slot_of (file_stamp f)) register (taken vs f.hgv) s.formed.ordered (fit f register vs s)

  others_same : others (sender f.hgv) (following_by vs f register) ≡ others (sender f.hgv) (records register)
  unfolding following_by
  others_same = others_stay f.mode (sender f.hgv) (slot_of (file_stamp f)) (slots_in register) (records register) (taken vs f.hgv) (fit f register vs s) s.his

  -- ---- another's copy

  -- it mirrors the register as it did
  pub another_mirrors : (who copy : List ℕ) → eqs (sender f.hgv) who ≡ false → Mirrors who register copy → Mirrors who after copy
  another_mirrors who copy d m =
      rw (after_holds.many, after_holds.held, own_stays who (sender f.hgv) (following_by vs f register) (records register) d others_same) m

  -- ---- his own is updated

  module _ (copy : List ℕ) (m : Mirrors (sender f.hgv) register copy) where
    -- the HGC that he gets
    abbrev g : List ℕ
    g = confirmation (shown f) f.hgv vs

    -- what he was sent
    abbrev entry : Sent
    entry = sent f.mode f.offset f.hgv g

    -- no stop from 21 to 32 was given
    c : Formed f register
    c = s.formed

    -- the taken lines
    abbrev ls : List (List ℕ)
    ls = taken vs f.hgv

    -- 51 is not given
    his_own : own_holds copy f.hgv ≡ true
    unfolding own_holds own
    his_own = rw m.held (passes_each (of_actor (sender f.hgv)) (sift_passes (of_actor (sender f.hgv)) (records register)))

    -- 52 is not given: the local time that the HGC shows has a UTC time, which is the reception
    said : sent_holds entry ≡ true
    unfolding sent_holds
    said = rw (receipt f register vs s, reception_read f register vs s) (local_utc f.offset f.reception c.received)

    -- the records that follow in the copy, by the HGC's list, its reception in UTC and the lines read off as taken
    copied_is : copy_following entry copy ≡ holdings f.mode (sender f.hgv) (slot_of (file_stamp f)) (records copy) ls
    unfolding copy_following
    copied_is = rw (list_held f.hgv g (receipt f register vs s), reception_read f register vs s, local_back f.offset f.reception c.received, taken_are f register vs s)

    -- are his of those that follow in the register
    copied_own : copy_following entry copy ≡ own (sender f.hgv) (following_by vs f register)
    unfolding following_by
    copied_own =
        copied_is
        ∙ rw m.held
        (sym (own_holdings f.mode (sender f.hgv) (slot_of (file_stamp f)) (slots_in register) (records register) ls (fit f register vs s) s.his))

    -- the taken lines fit the copy
    fit_copy : Fit f.mode (sender f.hgv) (slot_of (file_stamp f)) (slots_in copy) (records copy) ls
    fit_copy =
        rw (m.many, m.held)
        (fit_own f.mode (sender f.hgv) (slot_of (file_stamp f)) (slots_in register) (records register) ls (fit f register vs s) s.his)

    -- so 33 is not given
    room : length (copy_following entry copy) ≤ slots_in copy
    room = rw copied_is fit_copy.room

    -- and what follows is in order
    copy_holds : Holds (slots_in copy) (copy_following entry copy) (copy_written entry copy)
    unfolding copy_written
    copy_holds = rw copied_is (follows f.mode (sender f.hgv) (slot_of (file_stamp f)) copy ls m.order fit_copy)

    -- ---- the call

    -- no stop is given
    pub update_number_lem : update_number entry copy ≡ 0
    unfolding update_number copy_stops receipt_stops first choose
    update_number_lem =
        rw (
          c.moded,
          m.order,
          c.sized,
          c.headed,
          c.versioned,
          c.fitting,
          addressed_receiver f.rows f.hgv c.sent,
          his_own,
          c.counted,
          c.footed,
          c.framed,
          said,
          le-ltb (slots_in copy) (length (copy_following entry copy)) room,
        )

    -- 0, and the import's own counts
    pub update_answer_lem : update_answer entry copy ≡ own_counts vs
    unfolding update_answer
    update_answer_lem = at_success (update_number entry copy) _ _ update_number_lem ∙ counts_same f register vs s

    -- his copy mirrors the register again
    pub update_mirrors : Mirrors (sender f.hgv) after (copy_after entry copy)
    unfolding copy_after
    update_mirrors =
        rw (at_success (update_number entry copy) (copy_written entry copy) copy update_number_lem, after_holds.many, after_holds.held, ← copied_own, ← m.many) copy_holds
