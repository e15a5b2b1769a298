use mathlib.Core.Path.{◌≡◌, refl, sym, ◌∙◌}
use native.Mathlib.Omega.{arith}
use Rattle.std.specs.Prelude.{Err}
use lib.Seq.{length-take-le}
use mir.Syntax.{w64}
use mir.Val.{to_z, of_z}
use mir.ValLaws.{to_z-of_z}
use Rattle.rules.specs.laws.Numbers.{refusal_some}
use Rattle.stops.proofs.Clear.{indexed_none}
use Rattle.imports.specs.Handed.{handed}
use Rattle.imports.specs.laws.Told.{told_refused}
use Rattle.imports.specs.laws.Form.{in_range, offset_is, formed_ahead, lines_in_most}
use Rattle.indexed.specs.laws.Same.{as_indexed, stopped}
use Rattle.indexed.proofs.import_indexed.Goals as goal

pub returns-in_err-check_form : goal.returns-in_err-check_form
returns-in_err-check_form c =
    let a = c.args in
    let f = handed a.mode a.reception.now a.offset a.rows.now a.hgv.now a.hgc.now in
    let e : to_z w64 (of_z w64 a.offset) ≡ a.offset = to_z-of_z w64 a.offset c.ranges.offset in
    let stop = c.in_err-check_form.field-0.0 in
    let r : c.from_residual.result ≡ Err stop = grind arith in
    rw (r, told_refused stop) (stopped _ f _ _ (rw e at c.in_err-check_form.ensures) (refusal_some stop))

pub ahead-requires : goal.ahead-requires
ahead-requires c = in_range _ _ _ _ _ _ _ refl _ (indexed_none _ _ _ _ _ _ _ c.in_ok-check_form.ensures refl).1 refl

pub slice_bounds-verdicts-end : goal.slice_bounds-verdicts-end
slice_bounds-verdicts-end c =
    let form = (indexed_none _ _ _ _ _ _ _ c.in_ok-check_form.ensures refl).1 in
    lines_in_most _ _ _ _ _ _ form refl _ c.lines_in-n.ensures

pub slice_bounds-import_lines-end : goal.slice_bounds-import_lines-end
slice_bounds-import_lines-end c =
    let form = (indexed_none _ _ _ _ _ _ _ c.in_ok-check_form.ensures refl).1 in
    sym (length-take-le _ _ (omega (arith, lines_in_most _ _ _ _ _ _ form refl _ c.lines_in-n.ensures)))

pub slice_bounds-found-end : goal.slice_bounds-found-end
slice_bounds-found-end c =
    let form = (indexed_none _ _ _ _ _ _ _ c.in_ok-check_form.ensures refl).1 in
    lines_in_most _ _ _ _ _ _ form refl _ c.lines_in-n.ensures

pub slice_bounds-import_lines-end-2 : goal.slice_bounds-import_lines-end-2
slice_bounds-import_lines-end-2 c =
    let form = (indexed_none _ _ _ _ _ _ _ c.in_ok-check_form.ensures refl).1 in
    sym (length-take-le _ _ (omega (arith, lines_in_most _ _ _ _ _ _ form refl _ c.lines_in-n.ensures)))

pub returns : goal.returns
returns c =
    let a = c.args in
    let f = handed a.mode a.reception.now a.offset a.rows.now a.hgv.now a.hgc.now in
    let e : to_z w64 (of_z w64 a.offset) ≡ a.offset = to_z-of_z w64 a.offset c.ranges.offset in
    let (long, form) = indexed_none _ _ _ _ _ _ _ c.in_ok-check_form.ensures refl in
    as_indexed _ f _ long _ _ _
    (rw (offset_is _ _ _ _ _ _ _ refl _ form refl _ c.ahead.ensures, e) at c.import_lines.ensures)

pub import_lines-requires : goal.import_lines-requires
import_lines-requires c =
    let n = c.lines_in-n.ensures in
    let (long, form) = indexed_none _ _ _ _ _ _ _ c.in_ok-check_form.ensures refl in
    let m = lines_in_most _ _ _ _ _ _ form refl _ n in
    record {
      clear = formed_ahead _ _ _ _ _ _ _ refl _ form refl _ c.ahead.ensures;
      long = long;
      each = length-take-le _ _ (omega (arith, m)) ∙ n;
      many = length-take-le _ _ (omega (arith, m)) ∙ n;
    }
