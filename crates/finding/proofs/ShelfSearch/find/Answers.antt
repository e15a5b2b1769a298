use mathlib.Core.Path.{◌∙◌}
use native.Mathlib.Omega.{arith}
use Rattle.std.proofs.Math.Logic.{∥∥₁_elim}
use Rattle.std.proofs.Props.{props}
use Rattle.finding.proofs.Laws.{found_here, found_nowhere}
use Rattle.finding.proofs.ShelfSearch.find.Goals as goal

pub returns-then-is_here : goal.returns-then-is_here
returns-then-is_here c =
    let h = c.is_here.ensures c.if-is_here.true in
    let ahead = c.is_ahead.ensures c.if-not-is_ahead.false in (
      c.from.ensures ∙ ∥∥₁_elim c.args.self.now.ordered (search props) (λ s. found_here _ _ _ _ _ s _ c.seek-rank.ensures ahead h.0 h.1),
      ∥∥₁_elim c.args.self.now.ordered (search props) (λ s. omega (arith, c.from.ensures, s.rises.within _ h.0)),
    )

pub returns-then-is_behind : goal.returns-then-is_behind
returns-then-is_behind c =
    let ahead = c.is_ahead.ensures c.if-not-is_ahead.false in
    let behind = c.is_behind.ensures c.if-is_behind.true in
    (∥∥₁_elim c.args.self.now.ordered (search props) (λ s. found_nowhere _ _ _ _ _ s _ c.seek-rank.ensures ahead behind), omega arith)
