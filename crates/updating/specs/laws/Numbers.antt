-- What the numbers answered say: at a stop the counts are zero and every lent byte stays (T4); at 0 nothing stops the call, and
-- what follows is written. Assumes nothing.
use Rattle.std.specs.Prelude.{◌≡◌, true, false, List, ℕ, ◌≤◌, ◌<◌, ℤ, length}
use Rattle.std.proofs.Math.Path.{sym}
use borrow.Author.Tests.{lt-ltb, le-ltb}
use Rattle.theory.specs.First.{first, choose}
use Rattle.theory.specs.laws.Stopped.{at_stop, at_success, by_first, by_second}
use Rattle.slots.specs.Slots.{slots_in}
use Rattle.provider.specs.Answer.{stop_counts, success_counts}
use Rattle.copies.specs.Copy.{copy_stops}
use Rattle.copies.specs.laws.Sound.{copies_numbered}
use Rattle.updating.specs.Sent.{sent}
use Rattle.updating.specs.Update.{copy_following, sent_holds, receipt_stops, update_number, update_answer, copy_written, copy_after}

module _ (mode : ℕ) (o : ℤ) (copy h g : List ℕ) where
  abbrev number : ℕ
  number = update_number (sent mode o h g) copy

  pub update_copy : (n : ℕ) → n ≡ first (copy_stops mode copy h) → (n ≡ 0 → ⊥) → n ≡ number
  unfolding update_number
  update_copy = by_first (copy_stops mode copy h) (receipt_stops (sent mode o h g) copy) (copies_numbered mode copy h)

  module _ (z : first (copy_stops mode copy h) ≡ 0) where
    update_behind : (n : ℕ) → n ≡ first (receipt_stops (sent mode o h g) copy) → n ≡ number
    unfolding update_number
    update_behind = by_second (copy_stops mode copy h) (receipt_stops (sent mode o h g) copy) (copies_numbered mode copy h) z

    pub update_52 : sent_holds (sent mode o h g) ≡ false → 52 ≡ number
    unfolding receipt_stops first choose
    update_52 r = update_behind 52 (sym (rw r))

    pub update_33 : sent_holds (sent mode o h g) ≡ true → slots_in copy < length (copy_following (sent mode o h g) copy) → 33 ≡ number
    unfolding receipt_stops first choose
    update_33 r l = update_behind 33 (sym (rw (r, lt-ltb (slots_in copy) (length (copy_following (sent mode o h g) copy)) l)))

    pub update_done : sent_holds (sent mode o h g) ≡ true → length (copy_following (sent mode o h g) copy) ≤ slots_in copy → 0 ≡ number
    unfolding receipt_stops first choose
    update_done r l = update_behind 0 (sym (rw (r, le-ltb (slots_in copy) (length (copy_following (sent mode o h g) copy)) l)))

  -- a stop
  module _ (n : ℕ) (e : n ≡ number) (k : n ≡ 0 → ⊥) where
    pub update_refused : stop_counts n ≡ update_answer (sent mode o h g) copy
    unfolding update_answer
    update_refused = sym (rw (← e) (at_stop n _ (stop_counts n) k))

    pub copy_stays : copy ≡ copy_after (sent mode o h g) copy
    unfolding copy_after
    copy_stays = sym (rw (← e) (at_stop n _ copy k))

  -- success
  module _ (e : 0 ≡ number) where
    pub update_counted : success_counts h g ≡ update_answer (sent mode o h g) copy
    unfolding update_answer
    update_counted = sym (at_success number _ _ (sym e))

    pub copy_updated : copy_written (sent mode o h g) copy ≡ copy_after (sent mode o h g) copy
    unfolding copy_after
    copy_updated = sym (at_success number _ _ (sym e))
