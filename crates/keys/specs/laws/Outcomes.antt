-- Two outcomes of one call are one, for each public function of this crate. Assumes nothing.
use Rattle.std.specs.Prelude.{◌≡◌, Bool, List, ℕ}
use Rattle.std.proofs.Common.{sym, ◌∙◌}
use Rattle.theory.specs.laws.Outcome.{one_outcome}
use Rattle.texts.specs.declared.columns.Columns.{Columns}
use Rattle.texts.specs.declared.parts.Parts.{Parts}
use Rattle.keys.specs.declared.Keys.{Keys}
use Rattle.keys.specs.declared.keyed.KeyedParts.{KeyedParts}
use Rattle.keys.specs.Promises.{Key, KeyedPartsBy, KeyedPartsKey, IsLess}

pub keyed_parts_by_one : (parts : Parts) (at : Columns) (r s : KeyedParts)
    → KeyedPartsBy parts at r → KeyedPartsBy parts at s → (r.block.now ≡ s.block.now) × (r.keys ≡ s.keys) × (r.count ≡ s.count)
keyed_parts_by_one parts at r s (b, k, n) (c, l, m) = (b ∙ sym c, k ∙ sym l, n ∙ sym m)

pub keyed_parts_key_one : (parts : KeyedParts) (i : ℕ) (r s : List ℕ) → KeyedPartsKey parts i r → KeyedPartsKey parts i s → r ≡ s
keyed_parts_key_one parts i r s = one_outcome

pub key_one : (b : List ℕ) (keys : Keys) (i : ℕ) (r s : List ℕ) → Key b keys i r → Key b keys i s → r ≡ s
key_one b keys i r s = one_outcome

pub is_less_one : (a b : List ℕ) (r s : Bool) → IsLess a b r → IsLess a b s → r ≡ s
is_less_one a b r s = one_outcome
