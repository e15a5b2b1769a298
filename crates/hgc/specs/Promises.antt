-- What each public function of this crate promises. Assumes nothing.
use Rattle.std.specs.Prelude.{◌≡◌, List, ◌++◌, ℕ, length, drop}
use Rattle.hgc.specs.Confirmation.{confirmation_length, confirmation}

-- what lies behind the confirmation stays
abbrev pub Write : List ℕ → List ℕ → List ℕ → List ℕ → ℕ → ℕ → List ℕ → Type 0
Write hgc reception h vs _ _ after =
    after ≡ confirmation reception h vs ++ drop (length (confirmation reception h vs)) hgc

-- of a confirmation with so many rejected lines of this width
abbrev pub LengthFor : ℕ → ℕ → ℕ → Type 0
LengthFor w rejected r = r ≡ confirmation_length w rejected
