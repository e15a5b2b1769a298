-- What the public function of this crate promises. Assumes nothing.
use Rattle.std.specs.Prelude.{◌≡◌, Bool, List, ℕ}
use Rattle.sequences.specs.Sequence.{sequence}

abbrev pub IsSequence : List ℕ → List ℕ → Bool → Type 0
IsSequence f from r = r ≡ sequence from f
