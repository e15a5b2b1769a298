-- From what is handed over to the lines, where no stop of the form is given. Assumes nothing.
use Rattle.std.specs.Prelude.{◌≡◌, Bool, true, List, ℕ, ◌≤◌, ℤ}
use Rattle.std.proofs.Common.{sym, ◌∙◌}
use Rattle.sizes.specs.Sizes.{lines_most}
use Rattle.hgv.specs.Layout.{lines_in}
use Rattle.hgv.specs.laws.Layout.{lines_most_lem}
use Rattle.offsets.specs.Offset.{offset_holds, reception_holds}
use Rattle.offsets.specs.Ahead.{ahead_of, offset_of}
use Rattle.offsets.specs.laws.Shift.{offset_ahead, received}
use Rattle.stops.specs.Stops.{form_stop}
use Rattle.stops.specs.Clear.{Clear}
use Rattle.stops.specs.laws.Clear.{clear}

-- b says whether 22 is not given, and n is the form's stop: none
module _ (mode : ℕ) (o : ℤ) (t register rows h : List ℕ) (b : Bool) (eb : b ≡ reception_holds o t) (n : ℕ) (en : n ≡ form_stop mode b register rows h) (z : n ≡ 0) where
  formed : Clear mode (reception_holds o t) register rows h
  formed = clear mode (reception_holds o t) register rows h (sym (rw eb at en) ∙ z)

  pub in_range : offset_holds o ≡ true
  in_range = (received o t formed.received).offset

  -- the offset is so many minutes ahead, and is found again
  module _ (a : ℕ) (ea : a ≡ ahead_of o) where
    pub offset_is : offset_of a ≡ o
    offset_is = rw ea (offset_ahead o in_range)

    pub formed_ahead : Clear mode (reception_holds (offset_of a) t) register rows h
    formed_ahead = rw offset_is formed

-- n lines have room in a block for the most that there may be
pub lines_in_most : (mode : ℕ) (timed : Bool) (register rows h : List ℕ) (s : ℕ) → s ≡ form_stop mode timed register rows h → s ≡ 0 → (n : ℕ) → n ≡ lines_in h → n ≤ lines_most
lines_in_most mode timed register rows h s e z n k = rw k (lines_most_lem h (clear mode timed register rows h (sym e ∙ z)).sized)
