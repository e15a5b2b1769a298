use Rattle.std.proofs.Common.{sym, arith}
use Rattle.std.proofs.Math.Path.{refl}
use Rattle.imports.specs.Call.{handed_in}
use Rattle.imports.specs.laws.Numbers.{number_judged}
use Rattle.imports.specs.laws.Told.{refused_is, done_is}
use Rattle.imports.proofs.Laws.{taken_most, rest_rejected, accepts}
use Rattle.imports.proofs.import_judged.Goals as goal

pub overflow_sub-rejected : goal.overflow_sub-rejected
overflow_sub-rejected c = taken_most _ _ c.count_taken-taken.ensures

pub judged_stop-requires : goal.judged_stop-requires
judged_stop-requires c =
    record {
      clear = c.requires.clear;
      verdict = c.requires.verdict;
      good = c.count_taken-taken.ensures;
      bad = rest_rejected _ _ c.count_taken-taken.ensures;
      sought = c.requires.sought;
    }

pub returns-in_err-judged_stop : goal.returns-in_err-judged_stop
returns-in_err-judged_stop c =
    let f = handed_in c.args.call.now c.args.hgc.now in
    refused_is f _ _ (number_judged f _ c.requires.clear _ c.in_err-judged_stop.ensures) _ (grind arith)

pub carry_out-requires : goal.carry_out-requires
carry_out-requires c =
    let f = handed_in c.args.call.now c.args.hgc.now in
    accepts f _ _ c.requires.clear c.requires.verdict _ c.requires.sought _ c.count_taken-taken.ensures _ c.in_ok-judged_stop.ensures refl

pub returns : goal.returns
returns c =
    let f = handed_in c.args.call.now c.args.hgc.now in
    let done = c.carry_out.ensures in
    done_is f _ (sym (number_judged f _ c.requires.clear _ c.in_ok-judged_stop.ensures)) _ done.answered _ done.stored _ done.confirmed
