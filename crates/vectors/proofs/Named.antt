-- Whether a text fits, in the words that docs/PORT.md names. Assumes nothing.
use mathlib.Core.Path.{◌≡◌}
use mathlib.Core.Bool.{◌&&◌}
use Prim.Native.Nat.{ℕ, ◌≤◌, ◌+◌, ◌-◌}
use native.Mathlib.Omega.{arith}
use lib.Dec.{leb}
use borrow.Author.Tests.{le-leb, leb-true}
use Rattle.theory.specs.laws.Truth.{same_truth, and_both, and_right}
use Rattle.vectors.specs.Vectors.{fits}

pub fits_at_lem : (from n room : ℕ) → (from ≡ 0 → ⊥) → n ≤ room → leb (from - 1) (room - n) ≡ fits from n room
unfolding fits
fits_at_lem from n room h k =
    same_truth (leb (from - 1) (room - n)) (leb 1 from && leb (from - 1 + n) room)
    (λ t. let l = leb-true (from - 1) (room - n) t in and_both (leb 1 from) (leb (from - 1 + n) room) (le-leb 1 from (omega arith)) (le-leb (from - 1 + n) room (omega arith)))
    (λ t. let l = leb-true (from - 1 + n) room (and_right (leb 1 from) (leb (from - 1 + n) room) t) in le-leb (from - 1) (room - n) (omega arith))
