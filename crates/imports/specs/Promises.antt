-- What each public function of this crate promises. Assumes nothing.
use Rattle.std.specs.Prelude.{◌≡◌, Result, List, ℕ}
use Rattle.rules.specs.declared.refusal.Refusal.{Refusal}
use Rattle.imports.specs.declared.Confirmed.{Confirmed}
use Rattle.imports.specs.Imported.{Imported, told}
use Rattle.imports.specs.Handed.{Handed}
use Rattle.imports.specs.Import.{answered, import_answer, register_after, hgc_after}

-- the four numbers that an answer is told by
abbrev pub Told : Result Confirmed Refusal → ℕ → Confirmed → Type 0
Told answer number done = answered number done.taken done.rejected done.length ≡ told answer

-- of what is handed over beside the register: the answer, the register and the buffer after it
unfoldable pub ImportJudged : Handed → List ℕ → Imported → List ℕ → List ℕ → Type 0
ImportJudged f register r b g =
    (r ≡ import_answer f register)
    × ((b ≡ register_after f register)
    × (g ≡ hgc_after f register))
