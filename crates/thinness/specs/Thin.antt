-- A full list that is too thin (stop 35). Assumes nothing.
use Rattle.std.specs.Prelude.{ℕ, ◌*◌, Bool, ◌&&◌, List, ltb}
use Rattle.sizes.specs.Modes.{is_full}
use Rattle.slots.specs.Search.{count_of}

-- "in mode 2, if twice the taken lines is less than the records held for the sender": of the records R before the file those of this
-- sender, ended ones too
unfoldable pub thin : ℕ → List ℕ → List (List ℕ) → ℕ → Bool
thin mode who R taken = is_full mode && ltb (2 * taken) (count_of who R)
