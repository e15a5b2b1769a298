-- Two outcomes of one call are one, for each public function of this crate. Assumes nothing.
use Rattle.std.specs.Prelude.{◌≡◌, List, ℕ}
use Rattle.theory.specs.laws.Outcome.{one_outcome}
use Rattle.hgc.specs.Promises.{Write, LengthFor}

pub write_one : (hgc reception h vs : List ℕ) (taken rejected : ℕ) (r s : List ℕ)
    → Write hgc reception h vs taken rejected r → Write hgc reception h vs taken rejected s → r ≡ s
write_one hgc reception h vs taken rejected r s = one_outcome

pub length_for_one : (w rejected r s : ℕ) → LengthFor w rejected r → LengthFor w rejected s → r ≡ s
length_for_one w rejected r s = one_outcome
