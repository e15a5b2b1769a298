use mathlib.Core.Path.{◌∙◌}
use Rattle.hgv.specs.Layout.{lines_of}
use Rattle.slots.specs.laws.Slots.{slots_used}
use Rattle.verdicts.specs.Verdict.{file_verdicts}
use Rattle.verdicts.proofs.judge.Goals as goal

pub returns : goal.returns
unfolding file_verdicts lines_of
returns c =
    c.judge_lines.ensures
    ∙ rw (c.used_part.ensures, slots_used _, c.sender.ensures, c.lines.ensures.1, c.lines.ensures.0, c.requires)
