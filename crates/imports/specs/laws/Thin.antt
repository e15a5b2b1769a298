-- As many lines are taken as have the verdict good. Assumes nothing.
use Rattle.std.specs.Prelude.{◌≡◌, List, ℕ, length}
use Rattle.std.proofs.Math.Path.{refl, sym}
use Rattle.std.proofs.Common.{◌∙◌}
use Rattle.theory.specs.Pick.{good}
use Rattle.theory.specs.Tally.{tally}
use Rattle.theory.specs.laws.Tally.{tally_pick}
use Rattle.hgv.specs.Layout.{lines_of}
use Rattle.hgv.specs.laws.Layout.{length_lines}
use Rattle.verdicts.specs.Verdict.{taken}
use Rattle.imports.specs.Handed.{Handed}
use Rattle.imports.specs.Import.{judged}
use Rattle.imports.specs.laws.Numbers.{Formed}
use Rattle.imports.specs.laws.Accepted.{verdict_each}

module _ (f : Handed) (register : List ℕ) (c : Formed f register) where
  abbrev vs : List ℕ
  vs = judged register f.rows f.hgv

  pub length_taken : length (taken vs f.hgv) ≡ tally good vs
  unfolding taken
  length_taken = tally_pick good vs (lines_of f.hgv) (verdict_each f register c vs refl ∙ sym (length_lines f.hgv))
