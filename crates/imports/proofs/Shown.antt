-- The import by what it asks of the clock and what it shows: by any b and t that those are; with no offset it is the import of before.
-- Assumes nothing.
use Rattle.std.specs.Prelude.{◌≡◌, true, false, List, ℕ, pos}
use Rattle.std.proofs.Math.Path.{refl}
use Rattle.std.proofs.Common.{◌∙◌}
use Rattle.std.proofs.Math.Bool.{Bool, not}
use Rattle.theory.specs.First.{first, choose}
use Rattle.theory.specs.Stopped.{unless_stopped}
use Rattle.times.specs.Time.{real_time}
use Rattle.offsets.specs.laws.Shift.{local_zero, received_zero}
use Rattle.stops.specs.Stops.{mode_holds, call_stops, form_stops}
use Rattle.imports.specs.Handed.{Handed}
use Rattle.imports.specs.Import.{shown, timed}
use Rattle.imports.specs.Shown.{stops_as, number_as, answer_as, register_as, hgc_as}
use Rattle.imports.specs.laws.Shown.{As, itself}

module _ (f : Handed) (register : List ℕ) where
  pub shown_as : (b : Bool) (t : List ℕ) → timed f ≡ b → shown f ≡ t → As b t f register
  shown_as b t e d = rw (e, d) at (itself f register)

-- where 22 is given, or 21 before it, nothing is shown
stopped_same : {A : Type 0} (m : Bool) (x x' y : A) → unless_stopped (choose m 21 22) x y ≡ unless_stopped (choose m 21 22) x' y
unfolding unless_stopped choose
stopped_same true x x' y = refl
stopped_same false x x' y = refl

module _ (t t' : List ℕ) (f : Handed) (register : List ℕ) where
  none_shown : As false t f register → As false t' f register
  unfolding answer_as register_as hgc_as number_as stops_as form_stops call_stops first unless_stopped choose
  none_shown a =
      let m : Bool = not (mode_holds f.mode) in
      record {
        answer = a.answer ∙ stopped_same m _ _ _;
        after = a.after;
        buffer = a.buffer ∙ stopped_same m _ _ _;
      }

-- with no offset the reception is asked to be real, and is shown
pub zero_as : (f : Handed) (register : List ℕ) → f.offset ≡ pos 0 → As (real_time f.reception) f.reception f register
zero_as f register e = go (real_time f.reception) refl
  where
    asked : timed f ≡ real_time f.reception
    asked = rw e (received_zero f.reception)

    go : (b : Bool) → real_time f.reception ≡ b → As b f.reception f register
    go true k = shown_as f register true f.reception (asked ∙ k) (rw e (local_zero f.reception k))
    go false k = none_shown (shown f) f.reception f register (shown_as f register false (shown f) (asked ∙ k) refl)
