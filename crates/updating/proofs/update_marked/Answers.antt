use Rattle.rules.specs.laws.Numbers.{held}
use Rattle.updating.proofs.Steps.{utc_fits, lines_fit, used_few, as_many, sought, not_room, apply_fits, update_whole}
use borrow.Author.Rules.{rules}
use borrow.Author.Tests.{leb-true}
use native.Mathlib.Omega.{arith}
use Rattle.updating.proofs.update_marked.Goals as goal

pub invariant_of-placed : goal.invariant_of-placed
invariant_of-placed c =
    record {
      each = (sought _ _ _ _ _ c.requires.clear c.requires.said _ c.requires.marked _ _ _ _ c.sender-sender.ensures c.lines-lines.ensures _ _ c.requires.many c.find_places.ensures).many;
    }

pub returns-in_err-require : goal.returns-in_err-require
returns-in_err-require c =
    search (rules, not_room _ _ _ _ _ c.requires.clear c.requires.said _ c.requires.marked _ _ _ _ c.sender-sender.ensures c.lines-lines.ensures _ _ c.requires.many c.find_places.ensures _ c.used_after-used.ensures)

pub write_utc-requires : goal.write_utc-requires
write_utc-requires c = utc_fits _ _ _ _ c.requires.said _ c.reception.ensures

pub returns : goal.returns
returns c =
    update_whole _ _ _ _ _ c.requires.clear c.requires.said _ c.requires.marked _ _ _ _ c.sender-sender.ensures c.lines-lines.ensures _ _ c.requires.many c.find_places.ensures _ c.used_after-used.ensures (omega (arith, leb-true _ _ (held _ _ _ c.in_ok-require.ensures))) _ c.list_sequence-list.ensures _ (rw c.reception.ensures at c.write_utc.ensures) _ c.count.ensures _ c.apply.ensures

pub find_places-requires : goal.find_places-requires
find_places-requires c =
    let from = c.sender-sender.ensures in
    let lines = c.lines-lines.ensures in
    record { lined = lines_fit _ _ _ _ _ c.requires.clear c.requires.said _ c.requires.marked _ _ _ _ from lines; judged = as_many _ _ _ _ _ c.requires.clear c.requires.said _ c.requires.marked _ _ _ _ from lines _ c.requires.many; few = used_few _ _ _ _ _ c.requires.clear c.requires.said _ c.requires.marked _ _ _ _ from lines }

pub apply-requires : goal.apply-requires
apply-requires c =
    apply_fits _ _ _ _ _ c.requires.clear c.requires.said _ c.requires.marked _ _ _ _ c.sender-sender.ensures c.lines-lines.ensures _ _ c.requires.many c.find_places.ensures _ c.used_after-used.ensures (omega (arith, leb-true _ _ (held _ _ _ c.in_ok-require.ensures))) _ c.list_sequence-list.ensures _ (rw c.reception.ensures at c.write_utc.ensures)
