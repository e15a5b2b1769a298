-- An accepted import's taken and rejected add up to the header's count (T7). Assumes nothing.
use Rattle.std.specs.Prelude.{◌≡◌, List, ℕ, ◌+◌}
use Rattle.std.proofs.Math.Path.{sym}
use Rattle.std.proofs.Common.{◌∙◌, eqb-true}
use Rattle.theory.specs.Pick.{good, bad}
use Rattle.theory.specs.Tally.{tally}
use Rattle.numbers.specs.Number.{number}
use Rattle.header.specs.Header.{count}
use Rattle.claims.specs.Claims.{count_holds}
use Rattle.hgv.specs.Layout.{lines_in}
use Rattle.slots.specs.Slots.{records}
use Rattle.verdicts.specs.laws.Verdict.{taken_rejected}
use Rattle.imports.specs.Handed.{Handed}
use Rattle.imports.specs.Import.{judged, import_number}
use Rattle.imports.specs.laws.Numbers.{Formed, accepted_clear}

module _ (f : Handed) (register : List ℕ) (e : import_number f register ≡ 0) where
  c : Formed f register
  c = accepted_clear f register e

  -- T7
  pub adds_up : tally good (judged register f.rows f.hgv) + tally bad (judged register f.rows f.hgv) ≡ number (count f.hgv)
  unfolding judged count_holds
  adds_up = taken_rejected f.rows (records register) f.hgv ∙ sym (eqb-true (number (count f.hgv)) (lines_in f.hgv) c.counted)
