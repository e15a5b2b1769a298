-- What the functions of this crate cite. Assumes nothing.
use mathlib.Core.Path.{◌≡◌, sym, ap, ◌∙◌}
use mathlib.Core.List.{List}
use Prim.Native.Nat.{ℕ}
use lib.ListN.{length}
use Rattle.hgv.specs.Layout.{width_of, lines_in, body}
use Rattle.slots.specs.Slots.{records}
use Rattle.verdicts.specs.Verdict.{file_verdicts}
use Rattle.verdicts.specs.laws.Verdict.{length_verdicts}
use Rattle.flagging.specs.Places.{places_of}
use Rattle.flagging.specs.laws.Places.{places_told, length_places}
use Rattle.applying.specs.Fit.{Sought}

-- the places of all lines tell those of the taken ones
pub judged_sought : (mode : ℕ) (register rows h vs found : List ℕ) → vs ≡ file_verdicts rows (records register) h → found ≡ places_of (records register) (width_of h) (body h) (lines_in h)
    → Sought mode (records register) (width_of h) (body h) vs found
judged_sought mode register rows h vs found v p =
    let n : length vs ≡ lines_in h = ap length v ∙ length_verdicts rows (records register) h in
    record {
      many = length_places (records register) (width_of h) (body h) (lines_in h) found p ∙ sym n;
      places = λ _. record { told = λ i l _. places_told (records register) (width_of h) (body h) (lines_in h) found p i (rw (← n) l) };
    }
