-- What the public function of this crate promises. Assumes nothing.
use Rattle.std.specs.Prelude.{◌≡◌, List, ℕ}
use Rattle.provider.specs.Counted.{Counted}
use Rattle.reading.specs.ReadBack.{read_answer, verdicts_after}

-- the answer, and the verdict block after it
unfoldable pub ReadBack : List ℕ → List ℕ → List ℕ → Counted → List ℕ → Type 0
ReadBack h g block r v =
    (r ≡ read_answer h g block)
    × (v ≡ verdicts_after h g block)
