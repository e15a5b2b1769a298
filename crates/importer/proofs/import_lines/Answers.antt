use Rattle.imports.specs.Call.{handed_in}
use Rattle.imports.specs.Import.{judged}
use Rattle.importer.proofs.Laws.{find_fits, sought}
use Rattle.importer.proofs.import_lines.Goals as goal

pub find_places-requires : goal.find_places-requires
unfolding judged
find_places-requires c =
    let f = handed_in c.args.call.now c.args.hgc.now in
    find_fits f _ _ c.requires.clear c.judge.ensures c.lines.result c.lines.ensures c.args.found.now c.requires.many

pub import_judged-requires : goal.import_judged-requires
unfolding judged
import_judged-requires c =
    let f = handed_in c.args.call.now c.args.hgc.now in
    let verdicts = c.judge.ensures in
    record {
      clear = c.requires.clear;
      verdict = verdicts;
      sought = sought f _ _ c.requires.clear verdicts c.lines.result c.lines.ensures _ c.requires.many _ c.find_places.ensures;
    }
