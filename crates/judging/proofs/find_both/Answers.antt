use Rattle.judging.proofs.Laws.{places_all, firsts_all}
use Rattle.judging.proofs.find_both.Goals as goal

pub returns : goal.returns
returns c =
    record {
      placed = places_all c.args.lines.now c.by-parts.result c.by-parts.ensures _ c.by_pan-slots.result c.by_pan-slots.ensures _ _ _ c.requires.unmarked c.places_by.ensures;
      first = firsts_all c.args.lines.now c.by-parts.result c.by-parts.ensures _ _ _ c.requires.many c.firsts.ensures;
    }
