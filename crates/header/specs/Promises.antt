-- What each public function of this crate promises. Assumes nothing.
use Rattle.std.specs.Prelude.{◌≡◌, Bool, List, ℕ}
use Rattle.header.specs.Header.{sender, list_sequence, header_holds}

abbrev pub Sender : List ℕ → List ℕ → Type 0
Sender h r = r ≡ sender h

abbrev pub ListSequence : List ℕ → List ℕ → Type 0
ListSequence h r = r ≡ list_sequence h

abbrev pub HasHeader : List ℕ → Bool → Type 0
HasHeader h r = r ≡ header_holds h
