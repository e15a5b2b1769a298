-- The lines stored into what was prepared. Assumes nothing.
use mathlib.Core.Path.{◌≡◌, refl, sym, ap, ◌∙◌}
use mathlib.Core.Bool.{Bool, true, false, cond}
use mathlib.Core.List.{List, map}
use Prim.Native.Nat.{ℕ, ◌≤◌, ◌<◌}
use native.Mathlib.Omega.{arith}
use lib.ListN.{length, get_or}
use borrow.Author.Tests.{le-ltb, eq-eqb, ne_eqb}
use Rattle.theory.specs.Each.{Each}
use Rattle.theory.specs.Walk.{some}
use Rattle.theory.specs.Parts.{part_at}
use Rattle.theory.specs.Pick.{good}
use Rattle.theory.specs.laws.Place.{place_some}
use Rattle.sizes.specs.Sizes.{full}
use Rattle.sizes.specs.Modes.{is_full}
use Rattle.columns.specs.Columns.{pan_of}
use Rattle.records.specs.Slot.{slot_of, storable}
use Rattle.slots.specs.Slots.{slots_in, records, used_in}
use Rattle.register.specs.Register.{in_order}
use Rattle.slots.specs.Search.{holds_pan, place_of}
use Rattle.taken.specs.Taken.{taken_in}
use Rattle.holdings.specs.Holdings.{stored_all, others, holdings}
use Rattle.upkeep.specs.Holds.{Holds, Left}
use Rattle.upkeep.specs.laws.Stays.{as_it_is}
use Rattle.storing.specs.CanStore.{Stands, CanStore}
use Rattle.storing.specs.laws.Standing.{each_taken}
use Rattle.applying.specs.Fit.{Fit, Sought}
use Rattle.applying.specs.laws.Prepared.{prepared, prepared_stored, each_new}

-- ---- prepared

pub all_gone : (mode : ℕ) (who : List ℕ) (R : List (List ℕ)) → mode ≡ full → others who R ≡ prepared mode who R
unfolding prepared is_full
all_gone mode who R e = rw (eq-eqb mode full e)

pub none_gone : (b : List ℕ) → in_order b ≡ true → (mode : ℕ) (who : List ℕ) (r : ℕ) → (mode ≡ full → ⊥) → r ≡ used_in b → Left (slots_in b) (prepared mode who (records b)) b r
unfolding prepared is_full
none_gone b h mode who r n u = rw (ne_eqb mode full n) (record { holds = as_it_is b h; counted = u })

-- ---- what is told of the lines, among the records of the register that was prepared

module _ (R : List (List ℕ)) (pan : List ℕ) (f : ℕ) where
  stands_found : (n : ℕ) → n ≡ length R → f ≡ place_of pan R → Stands n R pan f
  unfolding place_of
  stands_found n e p = record { held = λ k. sym p; new = λ k. place_some (holds_pan pan) R ∙ rw (← p) (le-ltb f (length R) (omega (arith, e))) }

  stands_nowhere : some (holds_pan pan) R ≡ false → Stands 0 R pan f
  stands_nowhere p = record { held = λ k. absurd (omega arith); new = λ k. p }

-- `used` slots are left, and a place below `told` tells of them
module _ (mode : ℕ) (who s b : List ℕ) (width : ℕ) (lines vs found : List ℕ) (o : in_order b ≡ true)
    (k : Each (λ l. storable s l ≡ true) (taken_in width vs lines)) (f : Fit mode who (slot_of s) (slots_in b) (records b) (taken_in width vs lines))
    (t : Sought mode (records b) width lines vs found) (b₁ : List ℕ) (used : ℕ) (p : Left (slots_in b) (prepared mode who (records b)) b₁ used)
    (told : ℕ) (e : told ≡ cond (is_full mode) 0 used) where
  counted : used ≡ used_in b₁
  counted = p.counted ∙ ap length (sym p.holds.held)

  leads_on : stored_all (records b₁) (map (slot_of s) (taken_in width vs lines)) ≡ holdings mode who (slot_of s) (records b) (taken_in width vs lines)
  leads_on = rw p.holds.held (prepared_stored mode who (slot_of s) (slots_in b) (records b) (taken_in width vs lines) f)

  known : told ≤ used
  known = rw e (go (is_full mode))
    where
      go : (t : Bool) → cond t 0 used ≤ used
      go true = omega arith
      go false = omega arith

  stands : (i : ℕ) → i < length vs → good (get_or vs i 0) ≡ true → Stands told (records b₁) (pan_of (part_at width i lines)) (get_or found i 0)
  unfolding prepared
  stands i l g = rw e (go (is_full mode) refl p.holds.held)
    where
      go : (t : Bool) → is_full mode ≡ t → records b₁ ≡ cond t (others who (records b)) (records b) → Stands (cond t 0 used) (records b₁) (pan_of (part_at width i lines)) (get_or found i 0)
      go true m q = stands_nowhere (records b₁) _ _ (rw q (each_taken width vs lines _ i l g (each_new mode who (slot_of s) (slots_in b) (records b) (taken_in width vs lines) f)))
      go false m q = stands_found (records b₁) _ _ used counted (rw q ((t.places m).told i l g))

  -- x is the stamp as it was written
  module _ (x : List ℕ) (written : x ≡ s) where
    pub can_store : CanStore x b₁ used told width lines vs found
    can_store =
        rw written
        record {
          order = p.holds.order;
          counted = counted;
          lined = k;
          apart = f.apart;
          room = rw (leads_on, p.holds.many) f.room;
          known = known;
          placed = stands;
        }

    pub applied : (b₂ : List ℕ) → Holds (slots_in b₁) (stored_all (records b₁) (map (slot_of x) (taken_in width vs lines))) b₂
        → Holds (slots_in b) (holdings mode who (slot_of s) (records b) (taken_in width vs lines)) b₂
    applied b₂ h = rw (written, leads_on, p.holds.many) at h
