use mathlib.Core.Path.{sym, ◌∙◌}
use Rattle.rules.specs.laws.Numbers.{held}
use Rattle.writer.proofs.Laws.{blocks_few}
use Rattle.writer.proofs.accounts_stop.Goals as goal

pub are_pans_apart-requires : goal.are_pans_apart-requires
are_pans_apart-requires c = blocks_few _ _ _ (sym c.has_blocks.ensures ∙ held _ _ _ c.in_ok-require.ensures)
