use borrow.Author.Rules.{rules}
use mathlib.Core.Path.{sym, ◌∙◌}
use native.Mathlib.Omega.{arith}
use Rattle.pans.proofs.Laws.{doubled_small, addend_doubled, addend_plain}
use Rattle.pans.proofs.addend.Goals as goal

pub returns-then-behind-eq1 : goal.returns-then-behind-eq1
returns-then-behind-eq1 c = (c.doubled.ensures ∙ sym (addend_doubled _ c.args.behind (omega arith)), rw c.doubled.ensures (doubled_small _ c.requires))

pub returns-else-behind-eq1 : goal.returns-else-behind-eq1
returns-else-behind-eq1 c = (sym (addend_plain _ c.args.behind (omega arith)), search rules)
