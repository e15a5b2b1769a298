use Rattle.std.proofs.Common.{rules, sym, ◌∙◌}
use lib.Seq.{length-take-le}
use Rattle.reading.proofs.Steps.{file_most, file_stopped}
use Rattle.reading.proofs.read_back.Goals as goal

pub returns-in_err-file_stop : goal.returns-in_err-file_stop
returns-in_err-file_stop c = search (rules, file_stopped)

pub slice_bounds-marks-end : goal.slice_bounds-marks-end
slice_bounds-marks-end c = file_most _ c.in_ok-file_stop.ensures _ c.lines_in-n.ensures

pub slice_bounds-read_lines-end : goal.slice_bounds-read_lines-end
slice_bounds-read_lines-end c = sym (length-take-le _ _ (file_most _ c.in_ok-file_stop.ensures _ c.lines_in-n.ensures))

pub read_lines-requires : goal.read_lines-requires
read_lines-requires c =
    let n = c.lines_in-n.ensures in
    (c.in_ok-file_stop.ensures, length-take-le _ _ (file_most _ c.in_ok-file_stop.ensures _ n) ∙ n)
