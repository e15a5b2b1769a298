-- What the public function of this crate promises. Assumes nothing.
use Rattle.std.specs.Prelude.{◌≡◌, Bool, List, ℕ}
use Rattle.pairing.specs.Backwards.{paired}
use Rattle.receipts.specs.Receipt.{texts_of, copies_of, lines_hold}

-- and a mark for each line, 0 where it is not paired
abbrev pub LinesHold : List ℕ → List ℕ → List ℕ → Bool → List ℕ → Type 0
LinesHold h g _ r after =
    (r ≡ lines_hold h g)
    × (after ≡ paired (texts_of h) (copies_of h g))
