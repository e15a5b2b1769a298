-- What the public function of this crate promises. Assumes nothing.
use Rattle.std.specs.Prelude.{List, ℕ}
use Rattle.imports.specs.Imported.{Imported}
use Rattle.imports.specs.Handed.{Handed}
use Rattle.imports.specs.Promises.{ImportJudged}

-- of what is handed over beside the register: the answer, the register and the buffer after it, as where the lines are judged
abbrev pub Import : Handed → List ℕ → Imported → List ℕ → List ℕ → Type 0
Import f register r b g = ImportJudged f register r b g
