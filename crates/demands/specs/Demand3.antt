-- Demand 3: the provider can know. Each sentence of it, and under it the theorem that says so. What happens on our side (`Ours`), what
-- he replays (`Replay`) and which of the events are his (`his`) stand in History. Where a theorem stands here by its statement
-- alone, a type, the theorem of that type stands in proofs/Demand3. Assumes nothing.
use Rattle.std.specs.Prelude.{◌≡◌, List, [], ℕ, ◌≤◌}
use Rattle.theory.specs.Join.{flat}
use Rattle.theory.specs.Pad.{pad}
use Rattle.sizes.specs.Sizes.{slot_length, slots_most}
use Rattle.slots.specs.Slots.{records}
use Rattle.imports.specs.Imported.{Imported}
use Rattle.demands.specs.Own.{own}
use Rattle.imports.specs.Handed.{Handed}
use Rattle.importer.specs.Promises.{Import}
use Rattle.sweeping.specs.Swept.{Swept}
use Rattle.sweeping.specs.Promises.{Sweep}
use Rattle.demands.specs.History.{Entry, Answer, Event, sweeping, his, entries, answers, empty, ◌▸◌, Ours, Replay}
use Rattle.demands.specs.laws.Replays as laws

-- "Both sides start empty with as many slots;"
pub both_start : (n : ℕ) → n ≤ slots_most → Ours n (empty n) [] × Replay n [] (empty n) []
both_start n m = (Ours.start m, Replay.start)

-- "any providers import in any order, refused imports included."
-- Whatever is handed over next, by whomever, and whatever outcome the contract of `import` admits: it is the next step of our side
module _ {n : ℕ} {register : List ℕ} {es : List Event} (ours : Ours n register es) (f : Handed) (r : Imported) (b g : List ℕ) (o : Import f register r b g) where
  abbrev pub AnyImport : Type 0
  AnyImport = (vs : List Event) × Ours n b vs

-- Sweeps stand among them (request 8), at any times, refused ones included. Whatever comes of one, the next step of our side is that everyone
-- is told its time;
pub any_sweep : {n : ℕ} {register : List ℕ} {es : List Event} → Ours n register es → (t : List ℕ) (r : Swept) (b : List ℕ) → Sweep t register r b
    → Ours n b (es ▸ sweeping t register r b)
any_sweep = Ours.swept

-- where it removed none, as where it was refused, nobody has to be
pub any_idle_sweep : {n : ℕ} {register : List ℕ} {es : List Event} → Ours n register es → (t : List ℕ) (r : Swept) (b : List ℕ) → Sweep t register r b
    → r.removed ≡ 0 → Ours n b es
any_idle_sweep = Ours.idle

-- "If he applies each accepted import of his (HGV, HGC, mode) once and in our order," with "the same offset", and "sweeps his copy at the same T
-- and the same place in the sequence": whatever was sent can be applied, and every time swept at, whenever he does it. A replay knows nothing of our side but what
-- he was told
pub any_replay : (n : ℕ) (es : List Entry) → (copy : List ℕ) × (us : List Answer) × Replay n es copy us
any_replay = laws.can_replay

-- For every sequence on our side, every provider, and every replay of what is his
module _ {n : ℕ} {register : List ℕ} {es : List Event} (ours : Ours n register es) (who : List ℕ) {copy : List ℕ} {us : List Answer} (replay : Replay n (entries (his who es)) copy us) where
  -- each of his updates answered 0, with that import's own taken and rejected, and each of his sweeps our number, with his part of what went;
  abbrev pub EachAnswered : Type 0
  EachAnswered = us ≡ answers who (his who es)

  -- "his copy holds, byte for byte and in order, the records we hold for him."
  abbrev pub CopyIs : Type 0
  CopyIs = copy ≡ flat (pad slot_length n (own who (records register)))

  abbrev pub SameRecords : Type 0
  SameRecords = records copy ≡ own who (records register)

-- "He needs neither our tables nor anyone else's records."
-- Two replays of the same HGVs, HGCs, modes, offsets and times end in the same bytes and answers, whatever else differs
module _ {n : ℕ} {es : List Entry} {c c' : List ℕ} {us us' : List Answer} (replay : Replay n es c us) (again : Replay n es c' us') where
  abbrev pub HeNeedsNothingElse : Type 0
  HeNeedsNothingElse = (c ≡ c') × (us ≡ us')
