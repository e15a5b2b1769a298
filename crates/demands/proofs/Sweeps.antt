-- A provider's copy, swept at the time of ours: it holds again what we hold for him. Of any outcome that the contract admits. Assumes nothing.
use Rattle.std.specs.Prelude.{◌≡◌, refl, true, List, ℕ, zero, suc, ◌-◌, length}
use Rattle.std.proofs.Math.Path.{sym}
use Rattle.std.proofs.Common.{ap, ◌∙◌, arith}
use Rattle.slots.specs.Slots.{records}
use Rattle.slots.specs.Search.{count_of}
use Rattle.register.specs.Register.{in_order}
use Rattle.upkeep.specs.Holds.{Holds}
use Rattle.sweeping.specs.Swept.{Swept}
use Rattle.sweeping.specs.Sweep.{going, staying, sweep_stops, sweep_number}
use Rattle.sweeping.specs.Promises.{Sweep}
use Rattle.sweeping.specs.laws.Sweep.{goes_or_stays, sweep_number_lem, sweep_refused, sweep_counts, sweep_holds}
use Rattle.demands.specs.Own.{own}
use Rattle.demands.specs.laws.Own.{count_own}
use Rattle.demands.specs.laws.Sweeps.{own_staying}

module _ (t register : List ℕ) (r : Swept) (b : List ℕ) (o : Sweep t register r b) where
  -- ---- a provider's copy, swept at the same time

  module _ (h : in_order register ≡ true) (who : List ℕ) (n : ℕ) (copy : List ℕ) (m : Holds n (own who (records register)) copy) (u : Swept) (c : List ℕ) (d : Sweep t copy u c) where
    -- is refused where ours is
    same_number : u.number ≡ r.number
    unfolding sweep_number sweep_stops
    same_number =
        let e : in_order copy ≡ in_order register = m.order ∙ sym h in
        sweep_number_lem t copy u c d ∙ rw e (sym (sweep_number_lem t register r b o))

    -- what it is to answer
    abbrev his_part : Swept
    his_part = record { number = r.number; removed = count_of who (records register) - count_of who (records b) }

    done : r.number ≡ 0 → Holds n (own who (records b)) c × (u ≡ his_part)
    done z =
        let k = sweep_holds t register r b o z in
        let y : u.number ≡ 0 = same_number ∙ z in
        let e : own who (records b) ≡ staying t (records copy) = rw (k.held, m.held) (own_staying who t (records register)) in
        let w : length (going t (records copy)) ≡ count_of who (records register) - count_of who (records b) =
        omega (arith, goes_or_stays t (records copy), ap length m.held, ap length e, count_own who (records register), count_own who (records b)) in
        (rw (e, ← m.many) (sweep_holds t copy u c d y), rw (← same_number, ← w, ← sweep_counts t copy u c d y))

    kept : (r.number ≡ 0 → ⊥) → Holds n (own who (records b)) c × (u ≡ his_part)
    kept k =
        let x = sweep_refused t register r b o k in
        let y = sweep_refused t copy u c d (λ z. k (sym same_number ∙ z)) in
        let w : count_of who (records register) - count_of who (records register) ≡ 0 = omega arith in
        (rw (x.1, y.1) m, y.0 ∙ rw (same_number, x.1, w))

    -- holds again what we hold for him, and his sweep answered our number, and how many of his went
    pub both_swept : Holds n (own who (records b)) c × (u ≡ his_part)
    both_swept = go r.number refl
      where
        go : (k : ℕ) → r.number ≡ k → Holds n (own who (records b)) c × (u ≡ his_part)
        go zero z = done z
        go (suc k) e = kept (λ z. omega arith)
