-- The blanks behind k characters, as the code lends them. Assumes nothing.
use mathlib.Core.Path.{◌≡◌}
use mathlib.Core.Bool.{Bool}
use mathlib.Core.List.{List}
use Prim.Native.Nat.{ℕ, ◌-◌}
use native.Mathlib.Omega.{arith}
use lib.ListN.{length, take, drop, length-drop}
use lib.Seq.{take_all}
use borrow.Author.Tests.{eq-eqb}
use Rattle.theory.specs.Every.{all, run}

pub rest_run : (p : ℕ → Bool) (f : List ℕ) (k : ℕ) → run p (length f - k) (take (length f - k) (drop k f)) ≡ all p (drop k f)
unfolding run
rest_run p f k =
    let l : length (drop k f) ≡ length f - k = rw length-drop in
    rw (take_all (length f - k) (drop k f) (omega arith), eq-eqb (length (drop k f)) (length f - k) l)
