use Rattle.std.proofs.Math.Logic.{∥∥₁_elim}
use Rattle.std.proofs.Props.{props}
use Rattle.finding.proofs.Laws.{lead_start, lead_same, lead_other}
use Rattle.finding.proofs.Shelf.first_at.Goals as goal

pub returns-then-rank-eq0 : goal.returns-then-rank-eq0
returns-then-rank-eq0 c =
    ∥∥₁_elim c.args.self.now.ordered (search props) (λ s. lead_start _ _ _ _ s _ c.requires.within _ c.requires.led c.if-rank-eq0.true)

pub returns-then-same : goal.returns-then-same
returns-then-same c =
    ∥∥₁_elim c.args.self.now.ordered (search props) (λ s. lead_same _ _ _ _ s _ c.requires.within _ c.requires.led c.if-rank-eq0.false _ _ c.key_at-there.ensures c.key_at.ensures _ c.same.ensures c.if-same.true _ c.from.ensures)

pub returns : goal.returns
returns c =
    ∥∥₁_elim c.args.self.now.ordered (search props) (λ s. lead_other _ _ _ _ s _ c.requires.within _ c.requires.led c.if-rank-eq0.false _ _ c.key_at-there.ensures c.key_at.ensures _ c.same.ensures c.if-same.false)
