use borrow.Author.Rules.{rules}
use Rattle.holdings.proofs.Laws.{taken_most, his_most, full_used, incremental_used}
use Rattle.holdings.proofs.used_after.Goals as goal

pub returns-then-mode-ne-FULL : goal.returns-then-mode-ne-FULL
returns-then-mode-ne-FULL c = incremental_used _ _ c.used_part-held.ensures _ c.if-mode-ne-FULL.true _ _ _ _ c.count_new.ensures.0

pub overflow_sub-others : goal.overflow_sub-others
overflow_sub-others c = his_most _ _ c.used_part-held.ensures _ _ c.count_of.ensures

pub overflow_add-result-2 : goal.overflow_add-result-2
overflow_add-result-2 c = let m = taken_most _ _ c.count_taken.ensures in search rules

pub returns : goal.returns
returns c = full_used _ _ c.used_part-held.ensures _ _ c.count_of.ensures _ c.if-mode-ne-FULL.false _ _ _ c.count_taken.ensures
