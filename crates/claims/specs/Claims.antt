-- What the HGV's header claims: its version (stops 27 and 28), its receiver (stop 29) and its count (stop 30). Assumes
-- nothing.
use Rattle.std.specs.Prelude.{ℕ, Bool, List, eqb}
use Rattle.theory.specs.Text.{bytes}
use Rattle.theory.specs.Same.{eqs}
use Rattle.texts.specs.Field.{listed}
use Rattle.numbers.specs.Number.{number}
use Rattle.hgv.specs.Layout.{lines_in}
use Rattle.header.specs.Header.{receiver, count, version}

-- stop 27 is given where this does not hold: 120001 or 220001
unfoldable pub version_holds : List ℕ → Bool
version_holds h = listed 6 (bytes "120001220001") (version h)

-- stop 28 is given in mode 2 where this holds: 220001
unfoldable pub incremental_only : List ℕ → Bool
incremental_only h = eqs (version h) (bytes "220001")

-- stop 29, first half, is given where this does not hold: the receiver is 000002
unfoldable pub receiver_holds : List ℕ → Bool
receiver_holds h = eqs (receiver h) (bytes "000002")

-- stop 30 is given where this does not hold: the count is n
unfoldable pub count_holds : List ℕ → Bool
count_holds h = eqb (number (count h)) (lines_in h)
