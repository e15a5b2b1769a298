use native.Mathlib.Omega.{arith}
use borrow.Author.Tests.{lt-leb, le-leb, lt-ltb, le-ltb}
use lib.ListN.{length}
use Rattle.fields.specs.Field.{blank}
use Rattle.characters.specs.Characters.{filled_to}
use Rattle.characters.proofs.Laws.{rest_run}
use Rattle.characters.proofs.is_filled.Goals as goal

pub returns-then-f-k : goal.returns-then-f-k
unfolding filled_to
returns-then-f-k c = rw (lt-leb _ _ c.if-f-k.true)

pub returns-then-k-gt0 : goal.returns-then-k-gt0
unfolding filled_to
returns-then-k-gt0 c =
    let x = c.args in
    rw (c.is_blanks.ensures, rest_run blank x.f.now x.k, le-leb x.k (length x.f.now) (omega arith), lt-ltb 0 x.k (omega arith))

pub returns-else-k-gt0 : goal.returns-else-k-gt0
unfolding filled_to
returns-else-k-gt0 c =
    let x = c.args in
    rw (le-leb x.k (length x.f.now) (omega arith), le-ltb 0 x.k (omega arith))
