-- Two outcomes of one call are one, for each public function of this crate. Assumes nothing.
use Rattle.std.specs.Prelude.{◌≡◌, Bool, List, ℕ}
use Rattle.theory.specs.laws.Outcome.{one_outcome}
use Rattle.removing.specs.Promises.{RemoveMarked, RemoveWhere, RemoveOf}

pub remove_marked_one : (b marks : List ℕ) (r s : ℕ) (c d : List ℕ) → RemoveMarked b marks r c → RemoveMarked b marks s d → (r ≡ s) × (c ≡ d)
remove_marked_one b marks r s c d h k = (one_outcome h.counted k.counted, one_outcome h.holds.bytes k.holds.bytes)

pub remove_where_one : (p : List ℕ → Bool) (b : List ℕ) (r s : ℕ) (c d : List ℕ) → RemoveWhere p b r c → RemoveWhere p b s d → (r ≡ s) × (c ≡ d)
remove_where_one p b r s c d h k = (one_outcome h.counted k.counted, one_outcome h.holds.bytes k.holds.bytes)

pub remove_of_one : (b who : List ℕ) (r s : ℕ) (c d : List ℕ) → RemoveOf b who r c → RemoveOf b who s d → (r ≡ s) × (c ≡ d)
remove_of_one b who r s c d h k = (one_outcome h.counted k.counted, one_outcome h.holds.bytes k.holds.bytes)
