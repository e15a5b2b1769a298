-- The offset is passed on as the machine has it, and is itself again (to_z-of_z).
use mathlib.Core.Path.{◌≡◌, sym, ◌∙◌}
use mathlib.Core.Bool.{true}
use mir.Syntax.{w64}
use mir.Val.{to_z, of_z}
use mir.ValLaws.{to_z-of_z}
use Rattle.offsets.specs.Offset.{offset_holds}
use Rattle.offsets.specs.laws.Shift.{offset_ahead, received_out, received_in}
use Rattle.offsets.proofs.has_local.Goals as goal

pub returns-else-is_offset : goal.returns-else-is_offset
returns-else-is_offset c =
    let z = c.args.offset in
    let e : to_z w64 (of_z w64 z) ≡ z = to_z-of_z w64 z c.ranges.offset in
    c.if-is_offset.false ∙ received_out z _ (sym (rw e at c.is_offset.ensures) ∙ c.if-is_offset.false)

pub returns-then-is_offset : goal.returns-then-is_offset
returns-then-is_offset c =
    let z = c.args.offset in
    let e : to_z w64 (of_z w64 z) ≡ z = to_z-of_z w64 z c.ranges.offset in
    let h : offset_holds z ≡ true = sym (rw e at c.is_offset.ensures) ∙ c.if-is_offset.true in
    rw (c.is_some.ensures, c.local_time.ensures, c.ahead.ensures, e, offset_ahead z h) (received_in z _ h)
