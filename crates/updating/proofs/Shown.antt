-- The update by what it asks of the HGC and when the file was received: by any b and t that those are; with no offset it is the update
-- of before. Assumes nothing.
use Rattle.std.specs.Prelude.{◌≡◌, Bool, true, List, [], ◌∷◌, ℕ, zero, suc, pos, length}
use Rattle.std.proofs.Math.Path.{refl}
use Rattle.std.proofs.Common.{sym, ◌∙◌, arith}
use Rattle.std.proofs.Math.Bool.{false}
use Rattle.std.proofs.Math.Dec.{ltb}
use Rattle.theory.specs.First.{◌if◌, first, choose}
use Rattle.theory.specs.laws.First.{numbered, first_append, otherwise}
use Rattle.theory.specs.laws.Stopped.{at_stop}
use Rattle.offsets.specs.laws.Shift.{utc_zero, utc_holds_zero}
use Rattle.answers.specs.Layout.{reception_of}
use Rattle.receipts.specs.Receipt.{receipt_holds}
use Rattle.slots.specs.Slots.{slots_in}
use Rattle.provider.specs.laws.Held.{received_held}
use Rattle.updating.specs.Sent.{Sent}
use Rattle.copies.specs.Copy.{copy_stops}
use Rattle.updating.specs.Update.{received_at, sent_holds}
use Rattle.updating.specs.Shown.{following_as, number_as, answer_as, copy_as}
use Rattle.updating.specs.laws.Shown.{As, itself}

module _ (s : Sent) (copy : List ℕ) where
  pub shown_as : (b : Bool) (t : List ℕ) → sent_holds s ≡ b → received_at s ≡ t → As b t s copy
  shown_as b t e d = rw (e, d) at (itself s copy)

some_stop : (m : ℕ) → otherwise m 52 ≡ 0 → ⊥
unfolding otherwise
some_stop zero e = omega arith
some_stop (suc m) e = omega arith

-- where 52 is given, or a stop before it, nothing is stamped
module _ (t : List ℕ) (s : Sent) (copy : List ℕ) where
  as_stopped : number_as false t s copy ≡ otherwise (first (copy_stops s.mode copy s.hgv)) 52
  unfolding number_as copy_stops numbered first choose
  as_stopped = first_append (copy_stops s.mode copy s.hgv) ((52 if true) ∷ (33 if ltb (slots_in copy) (length (following_as false t s copy))) ∷ []) refl

  not_none : number_as false t s copy ≡ 0 → ⊥
  not_none e = some_stop (first (copy_stops s.mode copy s.hgv)) (sym as_stopped ∙ e)

  copy_as_lem : copy_as false t s copy ≡ copy
  unfolding copy_as
  copy_as_lem = at_stop (number_as false t s copy) _ copy not_none

none_received : (t t' : List ℕ) (s : Sent) (copy : List ℕ) → As false t s copy → As false t' s copy
unfolding answer_as
none_received t t' s copy a =
    let e : number_as false t s copy ≡ number_as false t' s copy = as_stopped t s copy ∙ sym (as_stopped t' s copy) in
    record { answer = a.answer ∙ rw e; after = a.after ∙ copy_as_lem t s copy ∙ sym (copy_as_lem t' s copy) }

-- with no offset the HGC is asked to hold, and its reception is stamped
pub zero_as : (s : Sent) (copy : List ℕ) → s.offset ≡ pos 0 → As (receipt_holds s.hgv s.hgc) (reception_of s.hgc) s copy
unfolding sent_holds
zero_as s copy e = go (receipt_holds s.hgv s.hgc) refl
  where
    go : (b : Bool) → receipt_holds s.hgv s.hgc ≡ b → As b (reception_of s.hgc) s copy
    go true k =
        let r = received_held s.hgv s.hgc k in
        shown_as s copy true (reception_of s.hgc) (rw (k, e) (utc_holds_zero (reception_of s.hgc) r)) (rw e (utc_zero (reception_of s.hgc) r))
    go false k = none_received (received_at s) (reception_of s.hgc) s copy (shown_as s copy false (received_at s) (rw k) refl)
