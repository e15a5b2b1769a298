use mathlib.Core.Path.{◌≡◌, refl, sym, ◌∙◌}
use native.Mathlib.Omega.{arith}
use lib.Seq.{length-take-le}
use mir.Syntax.{w64}
use mir.Val.{to_z, of_z}
use mir.ValLaws.{to_z-of_z}
use Rattle.rules.specs.laws.Numbers.{refusal_some}
use Rattle.imports.specs.Handed.{handed}
use Rattle.imports.specs.laws.Numbers.{number_form}
use Rattle.imports.specs.laws.Told.{refused_is}
use Rattle.imports.specs.laws.Form.{in_range, offset_is, formed_ahead, lines_in_most}
use Rattle.importer.proofs.import.Goals as goal

pub returns-in_err-check_form : goal.returns-in_err-check_form
returns-in_err-check_form c =
    let a = c.args in
    let f = handed a.mode a.reception.now a.offset a.rows.now a.hgv.now a.hgc.now in
    let e : to_z w64 (of_z w64 a.offset) ≡ a.offset = to_z-of_z w64 a.offset c.ranges.offset in
    refused_is f _ _ (number_form f _ _ (rw e at c.in_err-check_form.ensures) (refusal_some _)) _ (grind arith)

pub ahead-requires : goal.ahead-requires
ahead-requires c = in_range _ _ _ _ _ _ _ refl _ c.in_ok-check_form.ensures refl

pub slice_bounds-import_lines-end : goal.slice_bounds-import_lines-end
slice_bounds-import_lines-end c = sym (length-take-le _ _ (omega (arith, lines_in_most _ _ _ _ _ _ c.in_ok-check_form.ensures refl _ c.lines_in-n.ensures)))

pub slice_bounds-import_lines-end-2 : goal.slice_bounds-import_lines-end-2
slice_bounds-import_lines-end-2 c = sym (length-take-le _ _ (omega (arith, lines_in_most _ _ _ _ _ _ c.in_ok-check_form.ensures refl _ c.lines_in-n.ensures)))

pub import_lines-requires : goal.import_lines-requires
import_lines-requires c =
    let n = c.lines_in-n.ensures in
    let form = c.in_ok-check_form.ensures in
    let m = lines_in_most _ _ _ _ _ _ form refl _ n in
    record {
      clear = formed_ahead _ _ _ _ _ _ _ refl _ form refl _ c.ahead.ensures;
      each = length-take-le _ _ (omega (arith, m)) ∙ n;
      many = length-take-le _ _ (omega (arith, m)) ∙ n;
    }

pub returns : goal.returns
returns c =
    let e : to_z w64 (of_z w64 c.args.offset) ≡ c.args.offset = to_z-of_z w64 c.args.offset c.ranges.offset in
    rw (offset_is _ _ _ _ _ _ _ refl _ c.in_ok-check_form.ensures refl _ c.ahead.ensures, e) at c.import_lines.ensures
