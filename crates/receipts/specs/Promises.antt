-- What the public function of this crate promises. Assumes nothing.
use Rattle.std.specs.Prelude.{◌≡◌, Bool, List, ℕ}
use Rattle.receipts.specs.Receipt.{says_hold}

-- by itself, and of the HGV
abbrev pub Says : List ℕ → List ℕ → Bool → Type 0
Says h g r = r ≡ says_hold h g
