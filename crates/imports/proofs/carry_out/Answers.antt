use Rattle.imports.proofs.Laws.{apply_fits, applied, confirm_fits, hgc_is, length_fits, success_is}
use Rattle.imports.proofs.carry_out.Goals as goal

pub apply-requires : goal.apply-requires
apply-requires c = apply_fits _ _ _ _ _ _ c.requires _ _ c.sender.ensures c.list_sequence.ensures c.lines.result c.lines.ensures

pub confirm-requires : goal.confirm-requires
confirm-requires c = confirm_fits _ _ _ _ _ _ c.requires

pub length_for-length-requires : goal.length_for-length-requires
length_for-length-requires c = length_fits _ _ _ _ _ _ c.requires _ c.width.ensures

pub returns : goal.returns
returns c =
    let p = c.requires in
    record {
      answered = success_is _ _ _ _ _ _ p _ c.width.ensures _ c.length_for-length.ensures;
      stored = applied _ _ _ _ _ _ p _ _ c.sender.ensures c.list_sequence.ensures c.lines.result c.lines.ensures _ c.apply.ensures;
      confirmed = hgc_is _ _ _ _ _ _ p _ c.confirm.ensures;
    }
