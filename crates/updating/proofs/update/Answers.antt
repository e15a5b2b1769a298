use Rattle.std.proofs.Common.{rules}
use lib.Seq.{length-take-le}
use Rattle.rules.specs.laws.Numbers.{held}
use Rattle.updating.proofs.Steps.{copy_most, copy_stopped, not_offset}
use mathlib.Core.Path.{◌≡◌, sym, ◌∙◌}
use mir.Syntax.{w64}
use mir.Val.{to_z, of_z}
use mir.ValLaws.{to_z-of_z}
use Rattle.offsets.specs.laws.Shift.{offset_ahead}
use Rattle.updating.proofs.update.Goals as goal

pub returns-in_err-copy_stop : goal.returns-in_err-copy_stop
returns-in_err-copy_stop c = search (rules, copy_stopped)

pub returns-in_err-require : goal.returns-in_err-require
returns-in_err-require c =
    let e : to_z w64 (of_z w64 c.args.offset) ≡ c.args.offset = to_z-of_z w64 c.args.offset c.ranges.offset in
    let z = sym c.in_ok-copy_stop.ensures in
    let o = rw e at c.is_offset.ensures in
    search (rules, not_offset)

pub slice_bounds-marks-end : goal.slice_bounds-marks-end
slice_bounds-marks-end c = copy_most _ _ _ c.in_ok-copy_stop.ensures _ c.lines_in-n.ensures

pub slice_bounds-update_lines-end : goal.slice_bounds-update_lines-end
slice_bounds-update_lines-end c = sym (length-take-le _ _ (copy_most _ _ _ c.in_ok-copy_stop.ensures _ c.lines_in-n.ensures))

pub slice_bounds-found-end : goal.slice_bounds-found-end
slice_bounds-found-end c = copy_most _ _ _ c.in_ok-copy_stop.ensures _ c.lines_in-n.ensures

pub slice_bounds-update_lines-end-2 : goal.slice_bounds-update_lines-end-2
slice_bounds-update_lines-end-2 c = sym (length-take-le _ _ (copy_most _ _ _ c.in_ok-copy_stop.ensures _ c.lines_in-n.ensures))

pub returns : goal.returns
returns c =
    let e : to_z w64 (of_z w64 c.args.offset) ≡ c.args.offset = to_z-of_z w64 c.args.offset c.ranges.offset in
    let o = offset_ahead _ (sym c.is_offset.ensures ∙ held _ _ _ c.in_ok-require.ensures) in
    rw (c.ahead.ensures, o, e) at c.update_lines.ensures

pub update_lines-requires : goal.update_lines-requires
update_lines-requires c =
    let n = c.lines_in-n.ensures in
    let form = c.in_ok-copy_stop.ensures in
    let m = copy_most _ _ _ form _ n in
    record { clear = sym form; each = length-take-le _ _ m ∙ n; many = length-take-le _ _ m ∙ n }
