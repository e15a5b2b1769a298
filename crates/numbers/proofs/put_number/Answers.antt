use native.Mathlib.Omega.{arith}
use Rattle.numbers.proofs.Laws.{digits_lent}
use Rattle.numbers.proofs.put_number.Goals as goal

pub returns : goal.returns
returns c = digits_lent _ _ _ _ _ c.put_digits.ensures (omega arith)
