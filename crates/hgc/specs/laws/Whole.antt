-- The confirmation of a list without lines, byte by byte. Assumes nothing.
use Rattle.std.specs.Prelude.{◌≡◌, refl, List, [], ◌++◌, ℕ}
use Rattle.theory.specs.Text.{bytes}
use Rattle.theory.specs.Tally.{tally}
use Rattle.theory.specs.Join.{flat}
use Rattle.texts.specs.Field.{field, line_end}
use Rattle.numbers.specs.Number.{decimal, zeros}
use Rattle.frames.specs.Frames.{foot}
use Rattle.hgc.specs.Confirmation.{outcome, head, answers, confirmation}

-- list HGV9001232025031001 of the sender 900123
abbrev list : List ℕ
list =
    bytes "0900123000002HGV9001232025031001HGV00000000000000000000000000000000000000000000020250310043000120001000000000000000000000000000" ++ line_end
    ++ bytes "200000000000000000000000000000000000000000000000000000000000000" ++ line_end

pub no_lines : confirmation (bytes "20250310050000") list []
    ≡ bytes "0000002900123HGV900123202503100120250310050000000000000000000000000000000000120001000000000000000000000000000" ++ line_end ++ bytes "200000000000000000000000000000000000000000000000000000000000000" ++ line_end
unfolding confirmation head answers flat foot field decimal zeros outcome tally
no_lines = refl
