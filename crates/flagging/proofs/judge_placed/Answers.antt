use lib.ListN.{length}
use mathlib.Core.Bool.{false}
use Rattle.std.proofs.lemmas.List.{take-replicate}
use Rattle.sizes.specs.Sizes.{lines_most}
use Rattle.flagging.proofs.judge_placed.Goals as goal

pub judge_flagged-requires-clause-unflagged : goal.judge_flagged-requires-clause-unflagged
judge_flagged-requires-clause-unflagged c = take-replicate (length c.args.verdicts.now) lines_most false c.requires.few
