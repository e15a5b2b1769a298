-- The table's rule. Assumes nothing.
use mathlib.Core.Path.{◌≡◌, refl, ap, ◌∙◌}
use mathlib.Core.Bool.{Bool, true, false, cond}
use mathlib.Core.List.{List}
use Prim.Native.Nat.{ℕ, ◌<◌}
use lib.Dec.{eqb}
use lib.ListN.{get_or}
use Rattle.theory.specs.Text.{byte}
use Rattle.theory.specs.laws.Table.{entry}
use Rattle.plates.specs.Plate.{allowed}
use Rattle.plates.specs.laws.Plate.{allowed_mark, allowed_table}

flag : (t : Bool) → eqb (cond t (byte "1") (byte "0")) (byte "1") ≡ t
flag true = refl
flag false = refl

-- T5: the rule of the table at each of its 256 entries
pub judged : (t : List ℕ) → t ≡ allowed_table → (b : ℕ) → b < 256 → eqb (get_or t b 0) (byte "1") ≡ allowed b
unfolding allowed_table allowed_mark
judged t e b h = rw e (ap (λ (x : ℕ). eqb x (byte "1")) (entry allowed_mark 256 b h) ∙ flag (allowed b))
