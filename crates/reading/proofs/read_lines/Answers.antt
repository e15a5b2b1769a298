use Rattle.std.proofs.Common.{rules}
use Rattle.reading.proofs.Steps.{block_stopped, count_fits, each_room, reasons_fit, few_left, read_whole}
use Rattle.reading.proofs.read_lines.Goals as goal

pub returns-in_err-block_stop : goal.returns-in_err-block_stop
returns-in_err-block_stop c = search (rules, block_stopped)

pub tell-requires : goal.tell-requires
tell-requires c =
    let e = c.in_ok-block_stop.ensures.stopped in
    let m = c.block_stop.ensures.marked in
    record { room = each_room _ _ _ e _ m; reasoned = reasons_fit _ _ _ e _ m; answered = few_left _ _ _ e _ m }

pub count-requires : goal.count-requires
count-requires c = count_fits _ _ _ c.in_ok-block_stop.ensures.stopped _ c.block_stop.ensures.marked

pub returns : goal.returns
returns c = read_whole _ _ _ c.in_ok-block_stop.ensures.stopped _ c.block_stop.ensures.marked c.requires.0 _ c.count.ensures _ c.tell.ensures
