-- The import by what it asks of the clock and what it shows: it is the import. Assumes nothing.
use Rattle.std.specs.Prelude.{◌≡◌, List, ℕ}
use Rattle.std.proofs.Math.Path.{refl}
use Rattle.std.proofs.Math.Bool.{Bool}
use Rattle.imports.specs.Handed.{Handed}
use Rattle.imports.specs.Import.{shown, confirmed, judged_stops, timed, stops, import_number, success, import_answer, register_after, hgc_written, hgc_after}
use Rattle.imports.specs.Shown.{confirmed_as, stops_as, number_as, answer_as, register_as, hgc_as}

-- answer, register and buffer by b and t
pub record As (b : Bool) (t : List ℕ) (f : Handed) (register : List ℕ) : Type 0 where
  pub answer : import_answer f register ≡ answer_as b t f register
  pub after : register_after f register ≡ register_as b t f register
  pub buffer : hgc_after f register ≡ hgc_as b t f register

module _ (f : Handed) (register : List ℕ) where
  pub itself : As (timed f) (shown f) f register
  unfolding import_answer register_after hgc_after import_number stops judged_stops success hgc_written confirmed answer_as register_as hgc_as number_as stops_as confirmed_as
  itself = record { answer = refl; after = refl; buffer = refl }
