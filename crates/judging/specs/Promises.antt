-- What the public function of this crate promises. Assumes nothing.
use Rattle.std.specs.Prelude.{◌≡◌, List, ℕ}
use Rattle.slots.specs.Slots.{records}
use Rattle.hgv.specs.Layout.{width_of, lines_in, body}
use Rattle.verdicts.specs.Verdict.{file_verdicts}
use Rattle.flagging.specs.Places.{places_of}

-- a verdict for each line of the file h, and where its PAN stands among the records; what the index holds afterwards is left
-- open
abbrev pub Judge : List ℕ → List ℕ → List ℕ → List ℕ → List ℕ → Type 0
Judge h rows register verdicts found =
    (verdicts ≡ file_verdicts rows (records register) h)
    × (found ≡ places_of (records register) (width_of h) (body h) (lines_in h))
