-- What the public function of this crate promises. Assumes nothing.
use Rattle.std.specs.Prelude.{◌≡◌, List, ℕ}
use Rattle.writer.specs.Written.{Written}
use Rattle.writer.specs.Given.{Given}
use Rattle.writer.specs.Hgv.{write_answer, out_after}

-- of what is given: the answer, and the buffer after it
unfoldable pub WriteHgv : Given → List ℕ → Written → List ℕ → Type 0
WriteHgv g out r after = (r ≡ write_answer g out) × (after ≡ out_after g out)
