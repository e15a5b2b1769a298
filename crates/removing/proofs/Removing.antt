-- Records marked and removed. Assumes nothing.
use mathlib.Core.Path.{◌≡◌, refl, ap, ◌∙◌}
use mathlib.Core.Bool.{Bool, true, false}
use mir.Val.{bool_byte}
use mathlib.Core.List.{List, ◌++◌}
use Prim.Native.Nat.{ℕ, ◌*◌, ◌≤◌}
use lib.ListN.{length, take, drop}
use Rattle.theory.specs.Count.{bump}
use Rattle.theory.specs.Pick.{good, pick}
use Rattle.closing.specs.Closing.{kept, closed_up}
use Rattle.sizes.specs.Sizes.{slot_length}
use Rattle.slots.specs.Slots.{slots_in, slots_of, records, used_in, used_part}
use Rattle.slots.specs.laws.Slots.{used_fits, slots_used}
use Rattle.register.specs.Register.{in_order}
use Rattle.upkeep.specs.Holds.{Left}
use Rattle.upkeep.specs.laws.Stays.{closed}
use Rattle.removing.specs.laws.Marks.{mark_by}

module _ (b : List ℕ) (h : in_order b ≡ true) where
  -- there are as many marks as records
  pub marks_fit : (n : ℕ) → n ≡ used_in b → n * slot_length ≤ length b
  marks_fit n u = rw u (used_fits b)

  module _ (marks : List ℕ) (u : length marks ≡ used_in b) where
    pub removed : (b' : List ℕ) (r : ℕ) → (b' ≡ closed_up slot_length marks (take (length marks * slot_length) b)) × (r ≡ length (kept slot_length marks (take (length marks * slot_length) b)))
        → Left (slots_in b) (pick good marks (records b)) (b' ++ drop (length marks * slot_length) b) r
    unfolding kept used_part slots_of
    removed b' r e =
        record {
          holds = rw (e.0, u) (closed b h marks);
          counted = e.1 ∙ rw u (ap (λ (S : List (List ℕ)). length (pick good marks S)) (slots_used b));
        }

-- a mark, as the code makes it of what was asked
pub mark_is : (p : List ℕ → Bool) (r : List ℕ) (t : Bool) (m : ℕ) → t ≡ p r → m ≡ bool_byte t → m ≡ mark_by p r
unfolding mark_by bump
mark_is p r t m e f = rw (f, ← e) (go t)
  where
    go : (t : Bool) → bool_byte t ≡ bump t 0
    go true = refl
    go false = refl
