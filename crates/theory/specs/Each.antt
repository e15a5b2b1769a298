-- Each of a list has a property. Assumes nothing.
use Rattle.std.specs.Prelude.{List, [], ◌∷◌}

-- each of the list has the property q
pub data Each {A : Type 0} (q : A → Type 0) : List A → Type 0 where
  none : Each q []
  more : {x : A} {xs : List A} → q x → Each q xs → Each q (x ∷ xs)
