use mathlib.Core.Path.{sym, ◌∙◌}
use native.Mathlib.Omega.{arith}
use borrow.Author.Rules.{rules}
use Rattle.writer.specs.laws.Kept.{sized}
use Rattle.rules.specs.laws.Numbers.{held}
use Rattle.writer.proofs.Laws.{unsized, headless, stopped, room_left, written}
use Rattle.writer.proofs.write_hgv.Goals as goal

pub returns-in_default : goal.returns-in_default
returns-in_default c = unsized _ _ c.in_default.ensures.1

pub returns-in_err-require : goal.returns-in_err-require
returns-in_err-require c = rw (← c.in-Ok.ensures.1.same) (search (rules, headless))

pub returns-in_err-accounts_stop : goal.returns-in_err-accounts_stop
returns-in_err-accounts_stop c =
    let h = sym c.has_names.ensures ∙ held _ _ _ c.in_ok-require.ensures in
    rw (← c.in-Ok.ensures.1.same) (search (rules, stopped))

pub put_claims-requires : goal.put_claims-requires
put_claims-requires c = (omega (arith, room_left _ _ _ _ c.in_ok-accounts_stop.ensures), (sized _ _ _ _ _ _ (sym c.has_names.ensures ∙ held _ _ _ c.in_ok-require.ensures)).of_creation)

pub put_foot-requires : goal.put_foot-requires
put_foot-requires c = (omega arith, omega (arith, c.accounts_of-accounts.ensures.1, room_left _ _ _ _ c.in_ok-accounts_stop.ensures))

pub returns : goal.returns
returns c =
    let a = c.accounts_of-accounts.ensures in
    rw (← c.in-Ok.ensures.1.same)
    (written _ _ (sym c.has_names.ensures ∙ held _ _ _ c.in_ok-require.ensures) c.in_ok-accounts_stop.ensures _ _ a.1 a.0 _ _ _ _
    c.put_names.ensures c.put_claims.ensures c.put_lines.ensures c.put_foot.ensures)

pub put_names-requires : goal.put_names-requires
put_names-requires c =
    let z = sized _ _ _ _ _ _ (sym c.has_names.ensures ∙ held _ _ _ c.in_ok-require.ensures) in
    record { room = omega (arith, room_left _ _ _ _ c.in_ok-accounts_stop.ensures); sized = (z.of_date, z.of_previous) }

pub put_lines-requires : goal.put_lines-requires
put_lines-requires c = omega (arith, c.accounts_of-accounts.ensures.1, room_left _ _ _ _ c.in_ok-accounts_stop.ensures)
