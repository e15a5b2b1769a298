-- Laws of the definitions of specs/, in the form that the functions use. Assumes nothing.
use mathlib.Core.Path.{◌≡◌, sym, ◌∙◌}
use mathlib.Core.Bool.{Bool, true, false}
use mathlib.Core.List.{List}
use Prim.Native.Nat.{ℕ, ◌<◌, ◌≤◌, ◌+◌, ◌-◌, ◌/◌}
use native.Mathlib.Omega.{arith}
use lib.ListN.{length, take, drop, length-drop, drop_of_length-le}
use lib.Seq.{take_all, take-nil}
use Rattle.theory.specs.Same.{eqs, mem}
use Rattle.theory.specs.Parts.{part_at}
use Rattle.theory.specs.laws.Parts.{parts_from, parts_start, parts_step, parts_end}
use Rattle.texts.specs.Field.{field, listed}

module _ (text : List ℕ) (from to : ℕ) where
  pub field_none : length text < from → take 0 (drop 0 text) ≡ field from to text
  unfolding field
  field_none h = let k : length text ≤ from - 1 = omega arith in rw (drop_of_length-le text) (sym (take-nil (to + 1 - from)))

  pub field_cut : from ≤ length text → length text < to → take (length text - (from - 1)) (drop (from - 1) text) ≡ field from to text
  unfolding field
  field_cut h k =
      take_all (length text - (from - 1)) (drop (from - 1) text) (rw length-drop (omega arith))
      ∙ sym (take_all (to + 1 - from) (drop (from - 1) text) (rw length-drop (omega arith)))

  pub field_whole : (1 ≤ from) × (from ≤ to) → take (to - (from - 1)) (drop (from - 1) text) ≡ field from to text
  unfolding field
  field_whole h = let e : to - (from - 1) ≡ to + 1 - from = omega arith in rw e

-- ---- a search in a table

-- what is left decides
unfoldable pub Searching : ℕ → List ℕ → List ℕ → ℕ → Type 0
Searching w table f i = listed w table f ≡ mem f (parts_from w (length table / w) i table)

module _ (w : ℕ) (table f : List ℕ) where
  pub search_start : Searching w table f 0
  unfolding Searching listed
  search_start = rw (parts_start w (length table / w) table)

  module _ (i : ℕ) (v : Searching w table f i) where
    pub search_end : length table / w ≤ i → false ≡ listed w table f
    unfolding Searching mem
    search_end h = sym (v ∙ rw (parts_end w (length table / w) table i h))

    module _ (h : i < length table / w) (x : List ℕ) (p : x ≡ part_at w i table) (r : Bool) (e : r ≡ eqs f x) where
      pub search_hit : r ≡ true → true ≡ listed w table f
      unfolding Searching mem
      search_hit t = sym (v ∙ rw (parts_step w (length table / w) table i h, ← p, ← e, t))

      pub search_on : r ≡ false → Searching w table f (i + 1)
      unfolding Searching mem
      search_on t = v ∙ rw (parts_step w (length table / w) table i h, ← p, ← e, t)
