use Rattle.std.proofs.Common.{rules, sym, ◌∙◌}
use Rattle.rules.specs.laws.Numbers.{held}
use Rattle.updating.proofs.Steps.{not_sent, marked}
use Rattle.updating.proofs.update_lines.Goals as goal

pub returns-in_err-require : goal.returns-in_err-require
returns-in_err-require c = search (rules, not_sent)

pub update_marked-requires : goal.update_marked-requires
update_marked-requires c =
    let x = c.is_sent.ensures in
    let said = sym x.said ∙ held _ _ _ c.in_ok-require.ensures in
    record { clear = c.requires.clear; said = said; marked = marked c.args.call.now.mode _ _ _ said _ x.marked; many = c.requires.many }
