-- What a record made of a line keeps of it. Assumes nothing.
use Rattle.std.specs.Prelude.{◌≡◌, true, List, ℕ, length}
use Rattle.sizes.specs.Sizes.{slot_length}
use Rattle.columns.specs.Columns.{actor, pan_of}
use Rattle.register.specs.Register.{used_form}

-- `make` makes of the line l a used slot with its PAN and its actor
pub record Makes (make : List ℕ → List ℕ) (l : List ℕ) : Type 0 where
  pub pan : pan_of (make l) ≡ pan_of l
  pub his : actor (make l) ≡ actor l
  pub size : length (make l) ≡ slot_length
  pub used : used_form (make l) ≡ true
