-- A verdict counted. Assumes nothing.
use mathlib.Core.Path.{◌≡◌, refl, ◌∙◌}
use mathlib.Core.Bool.{Bool, true, false}
use Prim.Native.Nat.{ℕ, ◌≤◌}
use native.Mathlib.Omega.{arith}
use mir.Val.{bool_byte}
use lib.Dec.{eqb}
use Rattle.theory.specs.Count.{bump}
use Rattle.theory.specs.Pick.{good}
use Rattle.theory.specs.laws.Among.{good_is}

pub counts : (v m : ℕ) → m ≡ bool_byte (eqb v 0) → m ≡ bump (good v) 0
unfolding bump
counts v m e = e ∙ rw (good_is v) (go (eqb v 0))
  where
    go : (b : Bool) → bool_byte b ≡ bump b 0
    go true = refl
    go false = refl

pub counts_most : (b : Bool) (m : ℕ) → m ≡ bool_byte b → m ≤ 1
counts_most true m e = omega arith
counts_most false m e = omega arith
