use native.Mathlib.Omega.{arith}
use Rattle.std.proofs.Common.{rules, ◌<◌, get_or}
use Rattle.std.proofs.Math.Logic.{∥∥₁_elim}
use Rattle.std.proofs.Props.{props}
use Rattle.finding.proofs.Laws.{led_end}
use Rattle.finding.proofs.Shelf.lead.Goals as goal

pub loop-rank-preserved : goal.loop-rank-preserved
loop-rank-preserved c =
    let within : get_or c.args.self.now.order.now c.loop-rank.rank 0 < c.args.self.now.parts.count = ∥∥₁_elim c.args.self.now.ordered (search props) (λ s. s.rises.within _ c.loop-rank-test.true) in
    search rules

pub returns : goal.returns
returns c =
    rw c.requires (∥∥₁_elim c.args.self.now.ordered (search props) (λ s. led_end _ _ _ _ s _ _ c.loop-rank.invariant (omega arith)))
