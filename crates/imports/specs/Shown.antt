-- The import without an offset: by b, whether 22 is not given, and by t, what the sender is shown as the reception. With the reception's
-- being real for b and the reception for t this is the import as it was before it took an offset. Assumes nothing.
use Rattle.std.specs.Prelude.{ℕ, Bool, List, [], ◌∷◌, ◌++◌, ltb, length, drop}
use Rattle.theory.specs.First.{Rule, ◌if◌, first}
use Rattle.theory.specs.Stopped.{unless_stopped}
use Rattle.theory.specs.Pick.{good, bad}
use Rattle.theory.specs.Tally.{tally}
use Rattle.header.specs.Header.{sender}
use Rattle.slots.specs.Slots.{slots_in, records}
use Rattle.hgc.specs.Confirmation.{confirmation}
use Rattle.thinness.specs.Thin.{thin}
use Rattle.stops.specs.Stops.{form_stops}
use Rattle.imports.specs.Imported.{Imported}
use Rattle.imports.specs.Handed.{Handed}
use Rattle.imports.specs.Import.{judged, following, refusal, register_written}

module _ (b : Bool) (t : List ℕ) (f : Handed) (register : List ℕ) where
  unfoldable pub confirmed_as : List ℕ
  confirmed_as = confirmation t f.hgv (judged register f.rows f.hgv)

  unfoldable pub stops_as : List Rule
  stops_as =
      form_stops f.mode b register f.rows f.hgv
      ++ (35 if thin f.mode (sender f.hgv) (records register) (tally good (judged register f.rows f.hgv)))
      ∷ (33 if ltb (slots_in register) (length (following f register)))
      ∷ (34 if ltb (length f.hgc) (length confirmed_as))
      ∷ []

  unfoldable pub number_as : ℕ
  number_as = first stops_as

  unfoldable pub answer_as : Imported
  answer_as =
      let vs : List ℕ = judged register f.rows f.hgv in
      unless_stopped number_as (record { number = 0; taken = tally good vs; rejected = tally bad vs; length = length confirmed_as }) (refusal number_as)

  unfoldable pub register_as : List ℕ
  register_as = unless_stopped number_as (register_written f register) register

  unfoldable pub hgc_as : List ℕ
  hgc_as = unless_stopped number_as (confirmed_as ++ drop (length confirmed_as) f.hgc) f.hgc
