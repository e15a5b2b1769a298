-- With an index: where no stop of form is given, the index is long enough, and the import gives none. Assumes nothing.
use Rattle.std.specs.Prelude.{◌≡◌, Bool, List, ℕ, ◌≤◌}
use Rattle.std.proofs.Common.{sym, ◌∙◌}
use Rattle.slots.specs.Slots.{slots_in}
use Rattle.stops.specs.Stops.{form_stop, indexed_form_stop}
use Rattle.stops.specs.laws.Clear.{indexed_same, indexed_long}

module _ (mode : ℕ) (timed : Bool) (register b h : List ℕ) (k : ℕ) where
  -- n is what the stops with the index say: none holds, so it is long enough, and none of the import's does
  pub indexed_none : (n : ℕ) → n ≡ indexed_form_stop mode timed register b k h → n ≡ 0 → (slots_in register ≤ k) × (0 ≡ form_stop mode timed register b h)
  indexed_none n e z =
      let none = sym e ∙ z in
      let l = indexed_long mode timed register b h k none in
      (l, sym none ∙ indexed_same mode timed register b h k l)
