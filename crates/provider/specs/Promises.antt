-- What each public function of this crate promises. Assumes nothing.
use Rattle.std.specs.Prelude.{◌≡◌, Bool, List, ℕ}
use Rattle.pairing.specs.Backwards.{paired}
use Rattle.receipts.specs.Receipt.{texts_of, copies_of, receipt_holds}
use Rattle.provider.specs.Counted.{Counted}
use Rattle.provider.specs.Answer.{success_counts}

-- of an HGC that holds; the marks say which lines were taken
abbrev pub Count : List ℕ → List ℕ → List ℕ → Counted → Type 0
Count h g _ r = r ≡ success_counts h g

-- whether it holds, and a mark for each line: 0 where it was taken, if it does
abbrev pub IsReceipt : List ℕ → List ℕ → List ℕ → Bool → List ℕ → Type 0
IsReceipt h g _ r after =
    (r ≡ receipt_holds h g)
    × (after ≡ paired (texts_of h) (copies_of h g))
