use mathlib.Core.Path.{refl, sym, ◌∙◌}
use Rattle.issuers.proofs.Laws.{rest_is, first_found}
use Rattle.issuers.proofs.issued_by.Goals as goal

pub returns-then-has_digits : goal.returns-then-has_digits
returns-then-has_digits c =
    let e = sym c.if-has_digits.true ∙ c.has_digits.ensures in
    rw c.if-has_digits.true (first_found _ _ _ _ _ (sym c.in-Some.ensures) c.digits_in-digits.ensures _ _ e refl)

pub returns-else-has_digits : goal.returns-else-has_digits
returns-else-has_digits c =
    let e = sym c.if-has_digits.false ∙ c.has_digits.ensures in
    first_found _ _ _ _ _ (sym c.in-Some.ensures) c.digits_in-digits.ensures _ _ e (simp rest_is at c.some_fits.ensures)
