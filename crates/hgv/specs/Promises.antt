-- What each public function of this crate promises. Assumes nothing.
use Rattle.std.specs.Prelude.{◌≡◌, Bool, List, ℕ}
use Rattle.texts.specs.declared.parts.Parts.{Parts}
use Rattle.hgv.specs.Layout.{width_of, lines_in, length_holds, body}

abbrev pub Width : List ℕ → ℕ → Type 0
Width h r = r ≡ width_of h

abbrev pub LinesIn : List ℕ → ℕ → Type 0
LinesIn h r = r ≡ lines_in h

abbrev pub HasLength : List ℕ → Bool → Type 0
HasLength h r = r ≡ length_holds h

abbrev pub Body : List ℕ → List ℕ → Type 0
Body h r = r ≡ body h

-- the body as its lines
abbrev pub Lines : List ℕ → Parts → Type 0
Lines h r = (r.block.now ≡ body h) × (r.width ≡ width_of h) × (r.count ≡ lines_in h)
