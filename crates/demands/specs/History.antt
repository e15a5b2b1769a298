-- The two sides of demand 3, apart. Ours: every sequence of imports, by any providers, in any mode, with any rows, receptions,
-- offsets and buffers, accepted and refused, and of sweeps, at any times; what each accepted import sends back, and the time of each sweep.
-- His: a replay of what he was told, whenever he does it. Both speak of any outcomes that the contracts of `import`, `update` and
-- `sweep` admit. Assumes nothing.
use Rattle.std.specs.Prelude.{◌≡◌, Bool, true, List, [], ◌∷◌, map, ℕ, ◌*◌, ◌-◌, ◌≤◌, take, replicate}
use Rattle.theory.specs.Same.{eqs}
use Rattle.theory.specs.Keep.{sift}
use Rattle.header.specs.Header.{sender}
use Rattle.sizes.specs.Sizes.{slot_length, slots_most}
use Rattle.slots.specs.Slots.{records}
use Rattle.slots.specs.Search.{count_of}
use Rattle.imports.specs.Imported.{Imported}
use Rattle.imports.specs.Handed.{Handed}
use Rattle.importer.specs.Promises.{Import}
use Rattle.provider.specs.Counted.{Counted}
use Rattle.updating.specs.Sent.{Sent, sent}
use Rattle.updating.specs.Promises.{Update}
use Rattle.sweeping.specs.Swept.{Swept}
use Rattle.sweeping.specs.Promises.{Sweep}

-- what he has to do on his side
pub data Entry : Type 0 where
  -- to update his copy by what was sent
  apply : Sent → Entry
  -- to sweep his copy at the time
  sweep : List ℕ → Entry

-- what doing it answered
pub data Answer : Type 0 where
  of_update : Counted → Answer
  of_sweep : Swept → Answer

-- what happened on our side: the entry that follows from it, and what that is to answer each provider
pub record Event : Type 0 where
  pub entry : Entry
  pub answer : List ℕ → Answer

-- what he applies is what was handed over, his offset with it; the HGC is the buffer after the import, cut at the length answered; the
-- update is to answer 0, with the import's own counts
unfoldable pub acceptance : Handed → Imported → List ℕ → Event
acceptance f r g =
    record {
      entry = apply (sent f.mode f.offset f.hgv (take r.length g));
      answer = λ _. of_update (record { number = 0; taken = r.taken; rejected = r.rejected });
    }

-- his sweep is to answer our number, and by how many the records that we hold for him became fewer
unfoldable pub sweeping : List ℕ → List ℕ → Swept → List ℕ → Event
sweeping t register r b =
    record {
      entry = sweep t;
      answer = λ who. of_sweep (record { number = r.number; removed = count_of who (records register) - count_of who (records b) });
    }

-- an accepted import is his where he is the sender; a sweep is everyone's, also his who sent nothing
unfoldable pub concerns : List ℕ → Entry → Bool
concerns who (apply s) = eqs (sender s.hgv) who
concerns who (sweep t) = true

-- what is his, in our order
unfoldable pub his : List ℕ → List Event → List Event
his who es = sift (λ e. concerns who e.entry) es

abbrev pub entries : List Event → List Entry
entries es = map (λ e. e.entry) es

abbrev pub answers : List ℕ → List Event → List Answer
answers who es = map (λ e. e.answer who) es

-- n free slots
unfoldable pub empty : ℕ → List ℕ
empty n = replicate (n * slot_length) 0

-- one more, behind all before it
infixl 20 ◌▸◌
abbrev pub ◌▸◌ : {A : Type 0} → List A → A → List A
xs ▸ x = x ∷ xs

-- our side: the register after a sequence of imports and sweeps, and what was told of them
pub data Ours (n : ℕ) : List ℕ → List Event → Type 0 where
  -- it starts with n free slots
  start : n ≤ slots_most → Ours n (empty n) []
  -- a file was accepted
  accepted : {register : List ℕ} {es : List Event} → Ours n register es → (f : Handed) (r : Imported) (b g : List ℕ)
      → Import f register r b g → r.number ≡ 0 → Ours n b (es ▸ acceptance f r g)
  -- a file was refused
  refused : {register : List ℕ} {es : List Event} → Ours n register es → (f : Handed) (r : Imported) (b g : List ℕ)
      → Import f register r b g → (r.number ≡ 0 → ⊥) → Ours n b es
  -- it was swept, or the sweep was refused; everyone is told the time
  swept : {register : List ℕ} {es : List Event} → Ours n register es → (t : List ℕ) (r : Swept) (b : List ℕ)
      → Sweep t register r b → Ours n b (es ▸ sweeping t register r b)
  -- a sweep removed none, refused or not: nobody has to be told
  idle : {register : List ℕ} {es : List Event} → Ours n register es → (t : List ℕ) (r : Swept) (b : List ℕ)
      → Sweep t register r b → r.removed ≡ 0 → Ours n b es

-- his side: the copy after he did what he had to, once and in this order, and what that answered
pub data Replay (n : ℕ) : List Entry → List ℕ → List Answer → Type 0 where
  -- it starts with n free slots
  start : Replay n [] (empty n) []
  -- he applied what was sent
  applied : {es : List Entry} {copy : List ℕ} {us : List Answer} → Replay n es copy us → (s : Sent) (u : Counted) (c : List ℕ)
      → Update s copy u c → Replay n (es ▸ apply s) c (us ▸ of_update u)
  -- he swept at the time that he was told
  swept : {es : List Entry} {copy : List ℕ} {us : List Answer} → Replay n es copy us → (t : List ℕ) (u : Swept) (c : List ℕ)
      → Sweep t copy u c → Replay n (es ▸ sweep t) c (us ▸ of_sweep u)
