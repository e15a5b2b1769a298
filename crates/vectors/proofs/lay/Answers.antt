use lib.ListN.{length}
use Rattle.vectors.proofs.Laws.{laying_start, laying_turn, laying_end, laying_fits, length_laid}
use mathlib.Core.Path.{refl, ◌∙◌}
use native.Mathlib.Omega.{arith}
use Rattle.vectors.proofs.lay.Goals as goal

pub loop-letter-init : goal.loop-letter-init
loop-letter-init c = (refl, laying_start _ _ _ _ _)

pub lay_one-requires : goal.lay_one-requires
lay_one-requires c = let p = c.requires in
    (laying_fits _ _ _ _ _ _ _ _ c.loop-letter.invariant.1 p.0.0 (length c.loop-letter.to) (omega (arith, p.0.1, c.loop-letter.invariant.0)) c.loop-letter-test.true, p.1)

pub overflow_add-at : goal.overflow_add-at
overflow_add-at c = let p = c.requires in
    omega (arith, (laying_fits _ _ _ _ _ _ _ _ c.loop-letter.invariant.1 p.0.0 (length c.loop-letter.to) (omega (arith, p.0.1, c.loop-letter.invariant.0)) c.loop-letter-test.true).1)

pub loop-letter-preserved : goal.loop-letter-preserved
loop-letter-preserved c = let p = c.requires in
    let f = laying_fits _ _ _ _ _ _ _ _ c.loop-letter.invariant.1 p.0.0 (length c.loop-letter.to) (omega (arith, p.0.1, c.loop-letter.invariant.0)) c.loop-letter-test.true in
    (length_laid _ _ _ _ _ _ f.0 f.1 c.lay_one.ensures ∙ c.loop-letter.invariant.0, laying_turn _ _ _ _ _ _ _ _ c.loop-letter.invariant.1 c.loop-letter-test.true _ c.lay_one.ensures)

pub returns : goal.returns
returns c = laying_end _ _ _ _ _ c.loop-letter.letter-index _ _ c.loop-letter.invariant.1 (omega arith)
