use mathlib.Core.Path.{sym, ◌∙◌}
use native.Mathlib.Omega.{arith}
use lib.ListN.{length}
use Rattle.theory.specs.laws.Table.{cut_is, length_cut}
use Rattle.sizes.specs.Sizes.{lines_most}
use Rattle.judging.proofs.Laws.{lines_few, held_few, held_apart, held_indexed, file_judged, file_placed}
use Rattle.judging.proofs.judge.Goals as goal

pub slice_bounds-marks-end : goal.slice_bounds-marks-end
slice_bounds-marks-end c =
    lines_few _ c.requires.sized _ c.requires.each

pub slice_bounds-judge_found-end : goal.slice_bounds-judge_found-end
slice_bounds-judge_found-end c =
    sym (length_cut _ lines_most 0 (lines_few _ c.requires.sized _ c.requires.each))

pub slice_bounds-firsts-end : goal.slice_bounds-firsts-end
slice_bounds-firsts-end c =
    lines_few _ c.requires.sized _ c.requires.each

pub slice_bounds-judge_found-end-2 : goal.slice_bounds-judge_found-end-2
slice_bounds-judge_found-end-2 c =
    sym (length_cut _ lines_most 0 (lines_few _ c.requires.sized _ c.requires.each))

pub returns : goal.returns
returns c =
    let held = c.used_part.ensures in
    let lines = c.lines.ensures in
    (file_judged _ _ _ held c.lines.result lines _ c.requires.each _ _ c.sender.ensures _ c.judge_found.ensures.judged, file_placed _ _ _ held c.lines.result lines _ c.requires.each _ c.judge_found.ensures.placed)

pub judge_found-requires : goal.judge_found-requires
judge_found-requires c =
    let few = lines_few _ c.requires.sized _ c.requires.each in
    let held = c.used_part.ensures in
    record {
      lined = omega (arith, c.requires.each, c.lines.ensures.2);
      few = few;
      few_slots = held_few _ c.requires.ordered _ held;
      apart = held_apart _ c.requires.ordered _ held;
      indexed = held_indexed _ c.requires.ordered _ held _ c.requires.indexed;
      many = c.requires.many ∙ sym c.requires.each;
      many_firsts = length_cut (length c.args.verdicts.now) lines_most 0 few;
      unmarked = cut_is (length c.args.verdicts.now) lines_most 0 few;
    }
