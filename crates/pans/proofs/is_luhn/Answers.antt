use borrow.Author.Rules.{rules}
use mathlib.Core.Path.{sym}
use lib.Seq.{length-take-le}
use Rattle.theory.specs.Table.{table_of, table_from}
use Rattle.theory.specs.laws.Every.{leading_all, leading_most}
use Rattle.pans.specs.Pan.{doubled, luhn}
use Rattle.pans.specs.laws.Pan.{doubled_table}
use Rattle.pans.proofs.is_luhn.Goals as goal

pub slice_bounds-luhn_sum-end : goal.slice_bounds-luhn_sum-end
slice_bounds-luhn_sum-end c = rw c.digits_in-k.ensures (sym (length-take-le _ _ (leading_most _ _)))

pub invariant_of-luhn_sum : goal.invariant_of-luhn_sum
unfolding doubled_table table_of table_from doubled
invariant_of-luhn_sum c = record { listed = search rules }

pub luhn_sum-requires : goal.luhn_sum-requires
luhn_sum-requires c = rw c.digits_in-k.ensures (leading_all _ _)

pub returns : goal.returns
unfolding luhn
returns c = rw (c.luhn_sum.ensures, c.digits_in-k.ensures)
