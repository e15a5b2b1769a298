-- In mode 2 an update leaves what was sent and nothing else, whatever the copy held before. Assumes nothing.
use Rattle.std.specs.Prelude.{◌≡◌, true, List, [], map, ℕ}
use Rattle.std.proofs.Math.Path.{refl, ap}
use Rattle.std.proofs.Common.{sym, ◌∙◌, eq-eqb}
use Rattle.std.proofs.Math.Bool.{not}
use Rattle.theory.specs.laws.First.{numbered}
use Rattle.theory.specs.laws.Stopped.{at_success, by_neither}
use Rattle.theory.specs.laws.Each.{each_map}
use Rattle.theory.specs.laws.Walk.{each_passes}
use Rattle.theory.specs.laws.Keep.{sift_none}
use Rattle.theory.specs.Join.{flat}
use Rattle.theory.specs.Pad.{pad}
use Rattle.sizes.specs.Sizes.{slot_length, full}
use Rattle.sizes.specs.Modes.{is_full}
use Rattle.records.specs.Slot.{slot_of}
use Rattle.header.specs.Header.{sender}
use Rattle.slots.specs.Slots.{slots_in, records}
use Rattle.slots.specs.Search.{of_actor}
use Rattle.holdings.specs.Holdings.{others, replaced_all, holdings}
use Rattle.receipts.specs.Receipt.{taken_by}
use Rattle.provider.specs.Counted.{Counted}
use Rattle.updating.specs.Sent.{Sent}
use Rattle.copies.specs.Copy.{own_holds, copy_stops}
use Rattle.updating.specs.Update.{receipt_stops, sent_stamp, copy_following, update_number, copy_written, copy_after}
use Rattle.updating.specs.Promises.{Update}
use Rattle.copies.specs.laws.Sound.{copy_sound}
use Rattle.demands.specs.laws.Answered.{update_is}

module _ (s : Sent) (m : s.mode ≡ full) where
  -- the taken lines' records
  abbrev brought : List (List ℕ)
  brought = map (slot_of (sent_stamp s)) (taken_by s.hgv s.hgc)

  module _ (copy : List ℕ) (u : Counted) (c : List ℕ) (o : Update s copy u c) (z : u.number ≡ 0) where
    clear : update_number s copy ≡ 0
    clear = sym (update_is s copy u c o) ∙ z

    -- 51 is not given
    own_holds_lem : own_holds copy s.hgv ≡ true
    unfolding update_number copy_stops numbered
    own_holds_lem = (copy_sound s.mode copy s.hgv (by_neither (copy_stops s.mode copy s.hgv) (receipt_stops s copy) refl clear).0).own

    -- so no record is another's,
    none_others : others (sender s.hgv) (records copy) ≡ []
    unfolding others own_holds
    none_others = sift_none (λ r. not (of_actor (sender s.hgv) r)) (each_map (λ r k. ap not k) (each_passes (of_actor (sender s.hgv)) (records copy) own_holds_lem))

    -- and the taken lines alone follow
    brought_alone : copy_following s copy ≡ brought
    unfolding copy_following holdings replaced_all is_full
    brought_alone = rw (eq-eqb s.mode full m, none_others)

    full_leaves : c ≡ flat (pad slot_length (slots_in copy) brought)
    unfolding Update copy_after copy_written
    full_leaves = o.1 ∙ at_success (update_number s copy) (copy_written s copy) copy clear ∙ rw brought_alone

  pub full_mends : (copy copy' : List ℕ) → slots_in copy ≡ slots_in copy' → (u u' : Counted) (c c' : List ℕ)
      → Update s copy u c → u.number ≡ 0 → Update s copy' u' c' → u'.number ≡ 0 → c ≡ c'
  full_mends copy copy' e u u' c c' o z o' z' = full_leaves copy u c o z ∙ rw e (sym (full_leaves copy' u' c' o' z'))
