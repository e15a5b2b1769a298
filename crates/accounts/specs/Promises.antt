-- What the public function of this crate promises. Assumes nothing.
use Rattle.std.specs.Prelude.{◌≡◌, List, ℕ}
use Rattle.writing.specs.Put.{put_field}
use Rattle.accounts.specs.Account.{account_line}

-- the text after it
abbrev pub PutLine : List ℕ → ℕ → List ℕ → List ℕ → List ℕ → Type 0
PutLine text from sender a after = after ≡ put_field from (account_line sender a) text
