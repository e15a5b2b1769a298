use Rattle.holdings.proofs.Laws.{held_few, full_places, incremental_places}
use Rattle.holdings.proofs.find_places.Goals as goal

pub returns-then-mode-eq-FULL : goal.returns-then-mode-eq-FULL
returns-then-mode-eq-FULL c = full_places _ c.if-mode-eq-FULL.true _ _ _ _ _

pub returns : goal.returns
returns c =
    incremental_places _ _ c.used_part.ensures c.by_pan-held.result c.by_pan-held.ensures _ c.if-mode-eq-FULL.false c.args.lines.now c.by.result c.by.ensures _ _ _ c.requires.judged c.places.ensures

pub places-requires-clause-few : goal.places-requires-clause-few
places-requires-clause-few c h = held_few _ _ c.used_part.ensures c.by_pan-held.result c.by_pan-held.ensures c.requires.few
