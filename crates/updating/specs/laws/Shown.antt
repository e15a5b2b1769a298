-- The update by what it asks of the HGC and when the file was received: it is the update. Assumes nothing.
use Rattle.std.specs.Prelude.{◌≡◌, Bool, List, ℕ}
use Rattle.std.proofs.Math.Path.{refl}
use Rattle.updating.specs.Sent.{Sent}
use Rattle.updating.specs.Update.{received_at, copy_following, sent_holds, receipt_stops, update_number, update_answer, copy_written, copy_after}
use Rattle.updating.specs.Shown.{following_as, number_as, answer_as, copy_as}

-- answer and copy by b and t
pub record As (b : Bool) (t : List ℕ) (s : Sent) (copy : List ℕ) : Type 0 where
  pub answer : update_answer s copy ≡ answer_as b t s copy
  pub after : copy_after s copy ≡ copy_as b t s copy

module _ (s : Sent) (copy : List ℕ) where
  pub itself : As (sent_holds s) (received_at s) s copy
  unfolding update_answer copy_after copy_written update_number receipt_stops copy_following answer_as copy_as number_as following_as
  itself = record { answer = refl; after = refl }
