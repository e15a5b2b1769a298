use Rattle.vectors.proofs.Laws.{fits_within, text_put, text_stays}
use mathlib.Core.Path.{sym, ◌∙◌}
use Rattle.vectors.proofs.put_text.Goals as goal

pub put_field-requires : goal.put_field-requires
put_field-requires c = fits_within _ _ _ (sym c.fits.ensures ∙ c.if-fits.true)

pub returns-then-fits : goal.returns-then-fits
returns-then-fits c = text_put _ _ _ _ _ c.fits.ensures c.if-fits.true c.put_field.ensures

pub returns-else-fits : goal.returns-else-fits
returns-else-fits c = text_stays _ _ _ _ c.fits.ensures c.if-fits.false
