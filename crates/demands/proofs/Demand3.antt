-- The theorems whose statements are in specs/Demand3. Assumes nothing.
use Rattle.std.specs.Prelude.{List, ℕ}
use Rattle.imports.specs.Imported.{Imported}
use Rattle.imports.specs.Handed.{Handed}
use Rattle.importer.specs.Promises.{Import}
use Rattle.demands.specs.History.{Entry, Answer, Event, his, entries, Ours, Replay}
use Rattle.demands.specs.Demand3.{AnyImport, EachAnswered, CopyIs, SameRecords, HeNeedsNothingElse}
use Rattle.demands.proofs.Replays.{stands, replay_one, goes_on}

pub any_import : {n : ℕ} {register : List ℕ} {es : List Event} (ours : Ours n register es) (f : Handed) (r : Imported) (b g : List ℕ) (o : Import f register r b g) → AnyImport ours f r b g o
any_import = goes_on

module _ {n : ℕ} {register : List ℕ} {es : List Event} (ours : Ours n register es) (who : List ℕ) {copy : List ℕ} {us : List Answer} (replay : Replay n (entries (his who es)) copy us) where
  pub each_answered : EachAnswered ours who replay
  each_answered = ((stands ours who).replayed copy us replay).1

  pub copy_is : CopyIs ours who replay
  copy_is = ((stands ours who).replayed copy us replay).0.bytes

  pub same_records : SameRecords ours who replay
  same_records = ((stands ours who).replayed copy us replay).0.held

pub he_needs_nothing_else : {n : ℕ} {es : List Entry} {c c' : List ℕ} {us us' : List Answer} (replay : Replay n es c us) (again : Replay n es c' us') → HeNeedsNothingElse replay again
he_needs_nothing_else = replay_one
