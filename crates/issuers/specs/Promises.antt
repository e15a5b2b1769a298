-- What each public function of this crate promises. Assumes nothing.
use Rattle.std.specs.Prelude.{◌≡◌, Bool, List, ℕ}
use Rattle.issuers.specs.declared.Issued.{Issued}
use Rattle.issuers.specs.Rows.{rows_hold, known, issued_of}

abbrev pub AreRows : List ℕ → Bool → Type 0
AreRows b r = r ≡ rows_hold b

abbrev pub IsKnown : List ℕ → List ℕ → Bool → Type 0
IsKnown b sender r = r ≡ known b sender

-- what a PAN finds among the sender's rows
abbrev pub IssuedTo : List ℕ → List ℕ → List ℕ → Issued → Type 0
IssuedTo b sender pan r = r ≡ issued_of b sender pan
