use native.Mathlib.Omega.{arith}
use Rattle.storing.proofs.Storing.{can_start, standing_start, storing_start, storing_ready, storing_turn, storing_end, standing_left}
use Rattle.storing.proofs.store_all.Goals as goal

pub loop-i-init : goal.loop-i-init
loop-i-init c =
    let p = c.requires.storing in
    (storing_start _ _ _ _ _ _ _ _ (can_start _ _ _ _ _ _ _ _ p), standing_start _ _ _ _ _ _ _ _ p)

pub loop-i-preserved : goal.loop-i-preserved
loop-i-preserved c =
    let a = c.args in
    let t = c.loop-i-test.true in
    let p = c.part-line.ensures in
    let w = c.take_line-used.ensures in
    let r = storing_ready _ _ _ _ _ _ a.placed.now.verdicts.now a.lines.now.block.now _ c.loop-i.invariant.0 t _ p in
    (storing_turn _ _ _ _ _ _ a.placed.now.verdicts.now a.lines.now.block.now _ c.loop-i.invariant.0 t _ p _ _ w, standing_left _ a.placed.now.verdicts.now a.lines.now.block.now _ _ _ _ c.loop-i.invariant.1 t _ p _ _ r _ _ w)

pub returns : goal.returns
returns c =
    let a = c.args in
    storing_end _ _ _ _ _ _ a.placed.now.verdicts.now a.lines.now.block.now _ c.loop-i.invariant.0 (omega arith)

pub take_line-used-requires : goal.take_line-used-requires
take_line-used-requires c =
    let a = c.args in
    let t = c.loop-i-test.true in
    let p = c.part-line.ensures in
    record { ready = storing_ready _ _ _ _ _ _ a.placed.now.verdicts.now a.lines.now.block.now _ c.loop-i.invariant.0 t _ p; placed = λ g. rw (p, c.place_at-place.ensures) (c.loop-i.invariant.1.stands _ (omega arith) t g) }
