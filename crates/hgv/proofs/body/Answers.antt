use native.Mathlib.Omega.{arith}
use Rattle.hgv.proofs.Laws.{body_none, body_lent}
use Rattle.hgv.proofs.body.Goals as goal

pub returns-then-h-lt-BARE : goal.returns-then-h-lt-BARE
returns-then-h-lt-BARE c = body_none _ (omega arith)

pub returns : goal.returns
returns c = body_lent _
