-- Request 3: what the weight's code says. Each sentence of it, and under it the theorem that says so. What a code covers and what a tariff
-- prices, in kilograms, stands in weights/Kilograms; imports under other limits than today's (`AcceptedUnder`, `OursUnder`) stand in
-- Weighed. Where a theorem stands here by its statement alone, a type, the theorem of that type stands in proofs/Weights. Assumes nothing.
use Rattle.std.specs.Prelude.{◌≡◌, refl, Bool, true, List, [], ◌++◌, ℕ, ◌≤◌, ◌<◌, length, take, drop, get_or}
use Rattle.theory.specs.Every.{run}
use Rattle.theory.specs.Join.{flat}
use Rattle.theory.specs.Pad.{pad}
use Rattle.fields.specs.Field.{digit}
use Rattle.numbers.specs.Number.{number}
use Rattle.columns.specs.Columns.{tariff, weight}
use Rattle.weights.specs.Weights.{missing, allows, weight_holds}
use Rattle.weights.specs.Kilograms.{CoversClass}
use Rattle.weights.specs.laws.Kilograms.{allowed_class, class_allowed}
use Rattle.lines.specs.Rules.{record_holds}
use Rattle.lines.specs.laws.Agree.{unweighed}
use Rattle.hgv.specs.Layout.{lines_in}
use Rattle.sizes.specs.Sizes.{slot_length}
use Rattle.slots.specs.Slots.{records}
use Rattle.register.specs.Register.{in_order}
use Rattle.receipts.specs.Receipt.{receipt_holds}
use Rattle.imports.specs.Imported.{Imported}
use Rattle.imports.specs.Handed.{Handed}
use Rattle.importer.specs.Promises.{Import}
use Rattle.provider.specs.Counted.{Counted}
use Rattle.reading.specs.Promises.{ReadBack}
use Rattle.demands.specs.Own.{own}
use Rattle.demands.specs.History.{Answer, Event, his, entries, answers, Replay}
use Rattle.demands.specs.Verdicts.{Verdicts}
use Rattle.demands.specs.Weighed.{in_order_before, receipt_holds_before, judged_under, AcceptedUnder, own_counts, OursUnder}
use Rattle.demands.specs.Demand2.{taken_exactly}
use Rattle.demands.specs.laws.Weighed as laws

-- "So code w above 0 covers 10w + 1 to 10w + 10 kg. From then on, weight given: 12 and 22 need at most 0349; 31 and 32 need at least 0350;
-- 41 needs 0350 to 1199; 51 needs at least 1200."
-- Nobody has to believe these codes: a tariff allows one above 0 exactly when every weight that it covers is of the tariff's class
pub codes_are : (t w : ℕ) → 0 < w → w ≤ 9999 → (allows t w ≡ true → CoversClass t w) × (CoversClass t w → allows t w ≡ true)
codes_are t w g m = (allowed_class t w g, class_allowed t w g m)

-- 0000 is missing, and every tariff allows it
pub missing_allowed : (t : ℕ) → allows t 0 ≡ true
unfolding allows missing
missing_allowed t = refl

-- "It amends L10 for lines only."
-- A line that is taken with its weight given weighs what its tariff prices, whichever of the kilograms that its code covers it has
pub taken_in_class : (rows from : List ℕ) (R ls : List (List ℕ)) (vs : List ℕ) → Verdicts rows from R ls vs → (i : ℕ) → i < length ls → get_or vs i 0 ≡ 0
    → 0 < number (weight (get_or ls i [])) → CoversClass (number (tariff (get_or ls i []))) (number (weight (get_or ls i [])))
taken_in_class rows from R ls vs v i l e = laws.faultless_class rows from (get_or ls i []) ((taken_exactly rows from R ls vs v i l).0 e).l1_to_l10

-- "Records already stored are not judged by weight, so 23 and 52 drop the weight test."
-- Behind any 96 bytes and before any others, four digits are as good as any four others
pub not_judged : (p q : List ℕ) → length p ≡ 96 → (v w : List ℕ) → run digit 4 v ≡ true → run digit 4 w ≡ true → record_holds (p ++ (v ++ q)) ≡ record_holds (p ++ (w ++ q))
not_judged = unweighed

-- what was in order before is in order, and an HGC that held beside its HGV holds
pub still_in_order : (b : List ℕ) → in_order_before b ≡ true → in_order b ≡ true
still_in_order = laws.order_before

pub still_holds : (h g : List ℕ) → receipt_holds_before h g ≡ true → receipt_holds h g ≡ true
still_holds = laws.receipt_before

-- "Demands 2 and 3 stand with that reading."
-- They do under any limits of weight, so also for what was accepted under those before. Every accepted import of today is one under today's
abbrev pub TodayIsOne : Type 0
TodayIsOne =
    (f : Handed) (register : List ℕ) (r : Imported) (b g : List ℕ) → Import f register r b g → r.number ≡ 0
    → AcceptedUnder weight_holds f register b (take r.length g)

-- What an import under any limits sent back reads back today as it was judged: the same lines, reasons and counts
abbrev pub ReadsBack : Type 0
ReadsBack =
    (limit : List ℕ → Bool) (f : Handed) (register b g : List ℕ) → AcceptedUnder limit f register b g
    → (block : List ℕ) (u : Counted) (w : List ℕ) → ReadBack f.hgv g block u w → lines_in f.hgv ≤ length block
    → (u ≡ own_counts (judged_under limit f register)) × (w ≡ judged_under limit f register ++ drop (lines_in f.hgv) block)

-- And for every sequence of imports, each under the limits of its day, and of sweeps, every provider, and every replay today of what is his
module _ {n : ℕ} {register : List ℕ} {es : List Event} (ours : OursUnder n register es) (who : List ℕ) {copy : List ℕ} {us : List Answer} (replay : Replay n (entries (his who es)) copy us) where
  -- each of his updates answered 0, with that import's own taken and rejected, each of his sweeps with our number and his part of what went,
  abbrev pub EachAnswered : Type 0
  EachAnswered = us ≡ answers who (his who es)

  -- and his copy holds, byte for byte and in order, the records we hold for him
  abbrev pub CopyIs : Type 0
  CopyIs = copy ≡ flat (pad slot_length n (own who (records register)))
