-- Two outcomes of one call are one, for the public function of this crate. Assumes nothing.
use Rattle.std.specs.Prelude.{◌≡◌, List, ℕ}
use Rattle.theory.specs.laws.Outcome.{one_outcome}
use Rattle.storing.specs.Promises.{StoreAll}

pub store_all_one : (b lines : List ℕ) (width : ℕ) (vs stamp r s : List ℕ)
    → StoreAll b lines width vs stamp r → StoreAll b lines width vs stamp s → r ≡ s
store_all_one b lines width vs stamp r s h k = one_outcome h.bytes k.bytes
