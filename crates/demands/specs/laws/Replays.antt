-- T13: whoever replays what he was told comes to his part of the register. It holds at the start, and each import and each sweep
-- hands it on (proofs/Replays). Assumes nothing.
use Rattle.std.specs.Prelude.{◌≡◌, refl, List, [], ◌∷◌, ℕ, zero, suc, ◌+◌, ◌-◌, ◌*◌, ◌≤◌, replicate}
use Rattle.std.proofs.Common.{◌∙◌, arith, zero-mul}
use Rattle.std.proofs.Math.Bool.{true}
use Rattle.std.proofs.lemmas.List.{replicate-append-replicate}
use Rattle.theory.specs.Each.{none}
use Rattle.theory.specs.Distinct.{distinct}
use Rattle.theory.specs.Join.{flat}
use Rattle.theory.specs.Pad.{free, pad}
use Rattle.sizes.specs.Sizes.{slot_length, slots_most}
use Rattle.slots.specs.Slots.{slots_in, records}
use Rattle.register.specs.Register.{in_order}
use Rattle.register.specs.laws.Register.{records_pad, order_pad, slots_pad}
use Rattle.upkeep.specs.Holds.{Holds}
use Rattle.updating.specs.Promises.{Update}
use Rattle.demands.specs.Own.{own}
use Rattle.sweeping.specs.Promises.{Sweep}
use Rattle.demands.specs.History.{Entry, apply, sweep, Answer, Event, his, entries, answers, empty, start, swept, Replay, applied}
use Rattle.demands.specs.Weighed.{start, swept}

-- ---- at the start

-- free slots are zero bytes
flat_free : (w n : ℕ) → flat (replicate n (free w)) ≡ replicate {A = ℕ} (n * w) 0
unfolding flat free
flat_free w zero = rw (zero-mul w)
flat_free w (suc n) =
    let e : w + n * w ≡ suc n * w = omega arith in
    rw (flat_free w n) (replicate-append-replicate w (n * w) 0 ∙ rw e)

-- and make the empty register
empty_is : (n : ℕ) → flat (pad slot_length n []) ≡ empty n
unfolding empty pad
empty_is n = let e : n - 0 ≡ n = omega arith in rw e (flat_free slot_length n)

-- which is in order, and has no record
pub start_holds : (n : ℕ) → n ≤ slots_most → Holds n [] (empty n)
unfolding distinct
start_holds n m =
    rw (← empty_is n)
    (record { order = order_pad n none (omega arith) none refl m; held = records_pad n none (omega arith) none; bytes = refl; many = slots_pad n none (omega arith) })

-- ---- every sequence

-- of a register and what was told: it is in order, of n slots; and whoever replays what is his comes to a copy in order, of n
-- slots, that holds his records in our order, byte for byte, and was answered what it was to answer him
pub record Stands (n : ℕ) (who register : List ℕ) (es : List Event) : Type 0 where
  pub order : in_order register ≡ true
  pub many : slots_in register ≡ n
  pub replayed : (copy : List ℕ) (us : List Answer) → Replay n (entries (his who es)) copy us → Holds n (own who (records register)) copy × (us ≡ answers who (his who es))

-- whatever was sent can be replayed
pub can_replay : (n : ℕ) (es : List Entry) → (copy : List ℕ) × (us : List Answer) × Replay n es copy us
unfolding Update Sweep
can_replay n [] = (_, _, start)
can_replay n (apply s ∷ es) = go (can_replay n es)
  where
    go : (copy : List ℕ) × (us : List Answer) × Replay n es copy us → (c : List ℕ) × (vs : List Answer) × Replay n (apply s ∷ es) c vs
    go (copy, us, p) = (_, _, applied p s _ _ (refl, refl))
can_replay n (sweep t ∷ es) = go (can_replay n es)
  where
    go : (copy : List ℕ) × (us : List Answer) × Replay n es copy us → (c : List ℕ) × (vs : List Answer) × Replay n (sweep t ∷ es) c vs
    go (copy, us, p) = (_, _, swept p t _ _ (refl, refl))
