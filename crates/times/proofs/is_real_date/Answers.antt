use mathlib.Core.Path.{sym, ◌∙◌}
use Rattle.times.specs.laws.Date.{date_is}
use Rattle.times.proofs.is_real_date.Goals as goal

pub returns-then-is_digits : goal.returns-then-is_digits
returns-then-is_digits c =
    rw (c.is_day.ensures, c.number_at-day.ensures, c.number_at-m.ensures, c.number_at-y.ensures)
    (sym (date_is _ ∙ rw (← c.is_digits.ensures, c.if-is_digits.true)))

pub returns-else-is_digits : goal.returns-else-is_digits
returns-else-is_digits c = c.if-is_digits.false ∙ sym (date_is _ ∙ rw (← c.is_digits.ensures, c.if-is_digits.false))
