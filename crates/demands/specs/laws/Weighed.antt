-- Verdicts under any limits of weight, and the import's; what an accepted import has under them stands in proofs/Weighed. Assumes nothing.
use Rattle.std.specs.Prelude.{◌≡◌, refl, true, List, ℕ, ◌<◌, length, take, drop}
use Rattle.std.proofs.Math.Seq.{take-append_seam}
use Rattle.theory.specs.laws.Truth.{and_left, and_right}
use Rattle.theory.specs.Walk.{each}
use Rattle.numbers.specs.Number.{number}
use Rattle.columns.specs.Columns.{tariff, weight}
use Rattle.weights.specs.Weights.{allows, weight_holds}
use Rattle.weights.specs.Kilograms.{CoversClass}
use Rattle.weights.specs.laws.Kilograms.{allowed_class}
use Rattle.vehicles.specs.Vehicle.{vehicle_holds}
use Rattle.lines.specs.Faultless.{Faultless}
use Rattle.lines.specs.Rules.{L10, rules_by, line_rules}
use Rattle.slots.specs.Slots.{records}
use Rattle.register.specs.Register.{in_order}
use Rattle.receipts.specs.Receipt.{taken_by, receipt_holds}
use Rattle.verdicts.specs.Verdict.{own_rules, verdict_rules, verdict, verdicts_of, file_verdicts}
use Rattle.imports.specs.Imported.{Imported}
use Rattle.imports.specs.Handed.{Handed}
use Rattle.imports.specs.Import.{judged, confirmed, success, hgc_written}
use Rattle.importer.specs.Promises.{Import}
use Rattle.demands.specs.Weighed.{limit_before, in_order_before, receipt_holds_before, L10Under, rules_under, verdict_under, judged_under}
use Rattle.demands.specs.laws.Imports.{done_is, hgc_is}

-- what was in order before is in order
pub order_before : (b : List ℕ) → in_order_before b ≡ true → in_order b ≡ true
unfolding in_order_before
order_before b = and_left (in_order b) (each limit_before (records b))

-- and an HGC that held holds
pub receipt_before : (h g : List ℕ) → receipt_holds_before h g ≡ true → receipt_holds h g ≡ true
unfolding receipt_holds_before
receipt_before h g = and_left (receipt_holds h g) (each limit_before (taken_by h g))

-- the verdicts under today's limits are the import's
pub judged_today : (f : Handed) (register : List ℕ) → judged_under weight_holds f register ≡ judged register f.rows f.hgv
unfolding judged_under verdict_under rules_under L10Under judged file_verdicts verdicts_of verdict verdict_rules own_rules line_rules rules_by L10
judged_today f register = refl

module _ (f : Handed) (register : List ℕ) (r : Imported) (b g : List ℕ) (o : Import f register r b g) (z : r.number ≡ 0) where
  -- the HGC is the buffer after the import, cut at the length answered
  pub hgc_cut : take r.length g ≡ confirmed f register
  unfolding success hgc_written
  hgc_cut = rw (done_is f register r b g o z, hgc_is f register r b g o z) (take-append_seam (confirmed f register) (drop (length (confirmed f register)) f.hgc))

-- ---- a line that is taken

-- with its weight given it weighs what its tariff prices
pub faultless_class : (rows from l : List ℕ) → Faultless rows from l → 0 < number (weight l) → CoversClass (number (tariff l)) (number (weight l))
unfolding L10 weight_holds
faultless_class rows from l f g = allowed_class (number (tariff l)) (number (weight l)) g (and_right (vehicle_holds l) (allows (number (tariff l)) (number (weight l))) f.l10)
