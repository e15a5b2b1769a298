-- The indexed import: the import with one stop more, for an index of k numbers. All else is the import's. Assumes nothing.
use Rattle.std.specs.Prelude.{ℕ, List, ◌++◌}
use Rattle.theory.specs.First.{Rule, first}
use Rattle.stops.specs.Stops.{indexed_form_stops}
use Rattle.imports.specs.Handed.{Handed}
use Rattle.imports.specs.Import.{judged_stops, timed}

-- all stops, in their order: 21 to 24, 36, 25 to 32, 35, 33, 34
unfoldable pub indexed_stops : ℕ → Handed → List ℕ → List Rule
indexed_stops k f register = indexed_form_stops f.mode (timed f) register f.rows k f.hgv ++ judged_stops f register

-- the number answered: the first that holds, 0 for success
unfoldable pub indexed_number : ℕ → Handed → List ℕ → ℕ
indexed_number k f register = first (indexed_stops k f register)
