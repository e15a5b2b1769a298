-- What a PAN finds among rows, as one walk over them tells it. Assumes nothing.
use Rattle.std.specs.Prelude.{Bool, ◌&&◌, List, ℕ, eqb}
use Rattle.std.specs.List.{list_any}
use Rattle.issuers.specs.declared.Issued.{Issued}
use Rattle.issuers.specs.Rows.{length_of_pan, row_begins, row_fits}

-- the row begins the PAN, and its length of PAN is so many digits
unfoldable pub fits_with : List ℕ → List ℕ → ℕ → List ℕ → Bool
fits_with sender pan digits r = row_begins sender pan r && eqb (length_of_pan r) digits

-- both answers, of some rows
abbrev pub issued_in : List ℕ → List ℕ → List (List ℕ) → Issued
issued_in sender pan rows = record { begins = list_any (row_begins sender pan) rows; fits = list_any (row_fits sender pan) rows }
