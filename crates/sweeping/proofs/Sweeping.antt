-- A sweep that is refused, and one that is done. Assumes nothing.
use mathlib.Core.Path.{◌≡◌, refl, sym}
use mathlib.Core.Bool.{true}
use mathlib.Core.List.{List}
use Prim.Native.Nat.{ℕ, ◌-◌, ◌≤◌}
use native.Mathlib.Omega.{arith}
use Rattle.std.specs.Prelude.{Ok, Err}
use lib.ListN.{length}
use Rattle.theory.specs.First.{first}
use Rattle.theory.specs.laws.Stopped.{at_stop, at_success}
use Rattle.rules.specs.declared.refusal.Refusal.{Refusal}
use Rattle.rules.specs.Numbers.{refusal_number}
use Rattle.rules.specs.laws.Numbers.{refusal_some}
use Rattle.slots.specs.Slots.{slots_in, records, used_in}
use Rattle.register.specs.Register.{in_order}
use Rattle.upkeep.specs.Holds.{Left}
use Rattle.sweeping.specs.Swept.{told}
use Rattle.sweeping.specs.Sweep.{going, staying, sweep_stops, sweep_number, sweep_answer, swept_bytes, register_swept}
use Rattle.sweeping.specs.Promises.{Sweep}
use Rattle.sweeping.specs.laws.Sweep.{goes_or_stays, sweep_clear}

module _ (t b : List ℕ) where
  pub stopped : (f : Refusal) → refusal_number f ≡ first (sweep_stops t b) → Sweep t b (told (Err f)) b
  unfolding Sweep sweep_answer register_swept sweep_number
  stopped f e =
      rw (← e) (
        rw (at_stop (refusal_number f) (length (going t (records b))) 0 (refusal_some f)) refl,
        sym (at_stop (refusal_number f) (swept_bytes t b) b (refusal_some f)),
      )

  -- where neither stop holds
  module _ (e : 0 ≡ first (sweep_stops t b)) where
    is_clear : sweep_number t b ≡ 0
    unfolding sweep_number
    is_clear = sym e

    pub in_order_lem : in_order b ≡ true
    in_order_lem = (sweep_clear t b is_clear).1

    module _ (b' : List ℕ) (used left : ℕ) (u : used ≡ used_in b) (l : Left (slots_in b) (staying t (records b)) b' left) where
      pub left_within : left ≤ used
      left_within = omega (arith, u, l.counted, goes_or_stays t (records b))

      pub swept : Sweep t b (told (Ok (used - left))) b'
      unfolding Sweep sweep_answer register_swept swept_bytes
      swept =
          let n : used - left ≡ length (going t (records b)) = omega (arith, u, l.counted, goes_or_stays t (records b)) in
          rw (is_clear, at_success 0 (length (going t (records b))) 0 refl, at_success 0 (swept_bytes t b) b refl, n) (refl, l.holds.bytes)
