-- Two outcomes of one call are one, for each public function of this crate. Assumes nothing.
use Rattle.std.specs.Prelude.{◌≡◌, Bool, Option, List, ℕ}
use Rattle.std.proofs.Common.{sym, ◌∙◌}
use Rattle.theory.specs.laws.Outcome.{one_outcome}
use Rattle.keys.specs.declared.keyed.KeyedParts.{KeyedParts}
use Rattle.slots.specs.Promises.{Slots, Split, IsMarked, UsedSlots, UsedPart, Find, IsOf, IsHeldByAnother, CountOf, ByPan}

pub slots_one : (b : List ℕ) (r s : List (List ℕ)) → Slots b r → Slots b s → r ≡ s
slots_one b r s = one_outcome

pub split_one : (b : List ℕ) (used rest used' rest' : List (List ℕ)) → Split b used rest → Split b used' rest' → (used ≡ used') × (rest ≡ rest')
split_one b used rest used' rest' h k = (one_outcome h.0 k.0, one_outcome h.1 k.1)

pub is_marked_one : (s : List ℕ) (r r' : Bool) → IsMarked s r → IsMarked s r' → r ≡ r'
is_marked_one s r r' = one_outcome

pub used_slots_one : (b : List ℕ) (r s : ℕ) → UsedSlots b r → UsedSlots b s → r ≡ s
used_slots_one b r s = one_outcome

pub used_part_one : (b r s : List ℕ) → UsedPart b r → UsedPart b s → r ≡ s
used_part_one b r s = one_outcome

pub find_one : (b pan : List ℕ) (r s : Option ℕ) → Find b pan r → Find b pan s → r ≡ s
find_one b pan r s = one_outcome

pub is_of_one : (s who : List ℕ) (r r' : Bool) → IsOf s who r → IsOf s who r' → r ≡ r'
is_of_one s who r r' = one_outcome

pub is_held_by_another_one : (b pan who : List ℕ) (r s : Bool)
    → IsHeldByAnother b pan who r → IsHeldByAnother b pan who s → r ≡ s
is_held_by_another_one b pan who r s = one_outcome

pub count_of_one : (b who : List ℕ) (r s : ℕ) → CountOf b who r → CountOf b who s → r ≡ s
count_of_one b who r s = one_outcome

pub by_pan_one : (b : List ℕ) (r s : KeyedParts) → ByPan b r → ByPan b s → (r.block.now ≡ s.block.now) × (r.keys ≡ s.keys) × (r.count ≡ s.count)
by_pan_one b r s (p, k, n) (q, l, m) = (p ∙ sym q, k ∙ sym l, n ∙ sym m)
