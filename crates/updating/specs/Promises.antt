-- What the public function of this crate promises. Assumes nothing.
use Rattle.std.specs.Prelude.{◌≡◌, List, ℕ}
use Rattle.provider.specs.Counted.{Counted}
use Rattle.updating.specs.Sent.{Sent}
use Rattle.updating.specs.Update.{update_answer, copy_after}

-- of a copy, by what its provider was sent: the answer, and the copy after it
unfoldable pub Update : Sent → List ℕ → Counted → List ℕ → Type 0
Update s copy r b =
    (r ≡ update_answer s copy)
    × (b ≡ copy_after s copy)
