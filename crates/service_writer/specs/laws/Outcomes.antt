-- Two outcomes of one call are one, for the function that Rust calls. Assumes nothing.
use Rattle.std.specs.Prelude.{◌≡◌, List, ℕ}
use Rattle.std.proofs.Common.{ap}
use Rattle.writer.specs.Written.{Written}
use Rattle.writer.specs.Given.{Given}
use Rattle.writer.specs.laws.Outcomes.{write_hgv_one}
use Rattle.service_writer.specs.Promises.{GraftspindleWrite}

pub graftspindle_write_one : (g : Given) (out : List ℕ) (k k' n n' : ℕ) (x y : List ℕ) → GraftspindleWrite g out k n x → GraftspindleWrite g out k' n' y
    → (k ≡ k') × ((n ≡ n') × (x ≡ y))
graftspindle_write_one g out k k' n n' x y o o' =
    let e = write_hgv_one g out _ _ x y o o' in
    (ap (λ (r : Written). r.number) e.0, (ap (λ (r : Written). r.length) e.0, e.1))
