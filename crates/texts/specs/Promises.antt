-- What each public function of this crate promises. Assumes nothing.
use Rattle.std.specs.Prelude.{◌≡◌, Bool, List, ℕ}
use Rattle.theory.specs.Same.{eqs}
use Rattle.theory.specs.Parts.{part_at}
use Rattle.texts.specs.Field.{field, listed}

abbrev pub Field : List ℕ → ℕ → ℕ → List ℕ → Type 0
Field text from to r = r ≡ field from to text

-- the part at place i, each `width` bytes long
abbrev pub Part : List ℕ → ℕ → ℕ → List ℕ → Type 0
Part block width i r = r ≡ part_at width i block

abbrev pub Same : List ℕ → List ℕ → Bool → Type 0
Same a b r = r ≡ eqs a b

-- the text stands at these positions
abbrev pub HasText : List ℕ → ℕ → ℕ → List ℕ → Bool → Type 0
HasText t from to text r = r ≡ eqs (field from to t) text

-- f is an entry of the table
abbrev pub Listed : List ℕ → ℕ → List ℕ → Bool → Type 0
Listed f width table r = r ≡ listed width table f

-- what stands in these columns
abbrev pub ColumnsOf : ℕ → ℕ → List ℕ → List ℕ → Type 0
ColumnsOf from to text r = r ≡ field from to text

-- the value stands in these columns
abbrev pub ColumnsHas : ℕ → ℕ → List ℕ → List ℕ → Bool → Type 0
ColumnsHas from to text value r = r ≡ eqs (field from to text) value

abbrev pub PartsPart : List ℕ → ℕ → ℕ → List ℕ → Type 0
PartsPart block width i r = r ≡ part_at width i block
