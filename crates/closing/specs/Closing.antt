-- A block closed up over a block of marks: a part stays where its mark is 0. Assumes nothing.
use Rattle.std.specs.Prelude.{List, ◌++◌, ℕ, ◌*◌, ◌/◌, length, drop}
use Rattle.theory.specs.Parts.{chop}
use Rattle.theory.specs.Pick.{good, pick}
use Rattle.theory.specs.Join.{flat}
use Rattle.theory.specs.Pad.{pad}

-- those of a block's parts that stay, in order; a part without a mark goes
unfoldable pub kept : ℕ → List ℕ → List ℕ → List (List ℕ)
kept w marks b = pick good marks (chop w (length b / w) b)

-- they stand in front, what is free behind them is zero bytes, and what lies behind the last whole part is as it was
unfoldable pub closed_up : ℕ → List ℕ → List ℕ → List ℕ
closed_up w marks b = flat (pad w (length b / w) (kept w marks b)) ++ drop (length b / w * w) b
