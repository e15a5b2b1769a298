-- What the public function of this crate promises. Assumes nothing.
use Rattle.std.specs.Prelude.{◌≡◌, List, ℕ, length}
use Rattle.sizes.specs.Sizes.{slot_length}
use Rattle.closing.specs.Closing.{kept, closed_up}

-- how many slots stay, and the block after it
abbrev pub CloseUp : List ℕ → List ℕ → ℕ → List ℕ → Type 0
CloseUp block marks r after =
    (after ≡ closed_up slot_length marks block)
    × (r ≡ length (kept slot_length marks block))
