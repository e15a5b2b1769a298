-- Two outcomes of one call are one, for each public function of this crate. Assumes nothing.
use Rattle.std.specs.Prelude.{◌≡◌, Bool, List, ℕ}
use Rattle.theory.specs.laws.Outcome.{one_outcome}
use Rattle.texts.specs.Promises.{Field, Part, Same, HasText, Listed, ColumnsOf, ColumnsHas, PartsPart}

pub field_one : (text : List ℕ) (from to : ℕ) (r s : List ℕ) → Field text from to r → Field text from to s → r ≡ s
field_one text from to r s = one_outcome

pub part_one : (block : List ℕ) (width i : ℕ) (r s : List ℕ) → Part block width i r → Part block width i s → r ≡ s
part_one block width i r s = one_outcome

pub same_one : (a b : List ℕ) (r s : Bool) → Same a b r → Same a b s → r ≡ s
same_one a b r s = one_outcome

pub has_text_one : (t : List ℕ) (from to : ℕ) (text : List ℕ) (r s : Bool)
    → HasText t from to text r → HasText t from to text s → r ≡ s
has_text_one t from to text r s = one_outcome

pub listed_one : (f : List ℕ) (width : ℕ) (table : List ℕ) (r s : Bool)
    → Listed f width table r → Listed f width table s → r ≡ s
listed_one f width table r s = one_outcome

pub columns_of_one : (from to : ℕ) (text r s : List ℕ) → ColumnsOf from to text r → ColumnsOf from to text s → r ≡ s
columns_of_one from to text r s = one_outcome

pub columns_has_one : (from to : ℕ) (text value : List ℕ) (r s : Bool)
    → ColumnsHas from to text value r → ColumnsHas from to text value s → r ≡ s
columns_has_one from to text value r s = one_outcome

pub parts_part_one : (block : List ℕ) (width i : ℕ) (r s : List ℕ) → PartsPart block width i r → PartsPart block width i s → r ≡ s
parts_part_one block width i r s = one_outcome
