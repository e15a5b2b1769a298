-- T13: whoever replays what he was told comes to his part of the register. It holds at the start, and each import and each sweep
-- hands it on. Assumes nothing.
use Rattle.std.specs.Prelude.{◌≡◌, refl, Bool, List, [], ◌∷◌, ℕ, ◌≤◌, eqb, take}
use Rattle.std.proofs.Common.{◌∙◌, eqb-true}
use Rattle.std.proofs.Math.Bool.{true, false}
use Rattle.std.proofs.lemmas.Bool.{eqb-false}
use Rattle.theory.specs.Same.{eqs}
use Rattle.theory.specs.laws.Same.{eqs_true}
use Rattle.theory.specs.Keep.{onto, sift}
use Rattle.header.specs.Header.{sender}
use Rattle.sizes.specs.Sizes.{slots_most}
use Rattle.slots.specs.Slots.{slots_in, records}
use Rattle.register.specs.Register.{in_order}
use Rattle.upkeep.specs.Holds.{Holds}
use Rattle.imports.specs.Imported.{Imported}
use Rattle.importer.specs.Promises.{Import}
use Rattle.provider.specs.Counted.{Counted}
use Rattle.updating.specs.Sent.{sent}
use Rattle.updating.specs.Promises.{Update}
use Rattle.updating.specs.laws.Outcomes.{update_one}
use Rattle.demands.specs.Own.{own}
use Rattle.demands.proofs.Mirror.{Mirrors, after_holds, another_mirrors, update_answer_lem, update_mirrors}
use Rattle.imports.specs.Handed.{Handed}
use Rattle.sweeping.specs.Swept.{Swept}
use Rattle.sweeping.specs.Promises.{Sweep}
use Rattle.sweeping.specs.laws.Outcomes.{sweep_one}
use Rattle.demands.specs.History.{Entry, sweep, Answer, Event, sweeping, concerns, his, entries, answers, empty, Ours, start, accepted, refused, swept, idle, Replay, applied}
use Rattle.demands.specs.Weighed.{judged_under, AcceptedUnder, own_counts, acceptance_by, OursUnder, start, accepted, swept}
use Rattle.demands.specs.laws.Imports.{refused_register}
use Rattle.demands.specs.laws.Sound.{Sound}
use Rattle.demands.specs.laws.Sweeps.{idle_register, after_sweep}
use Rattle.demands.proofs.Sweeps.{both_swept}
use Rattle.demands.proofs.Weighed.{accepted_sound, accepted_today, told_today}
use Rattle.weights.specs.Weights.{weight_holds}
use Rattle.demands.specs.laws.Replays.{start_holds, Stands}

-- ---- one import, under any limits of weight

module _ (limit : List ℕ → Bool) (f : Handed) (register b g : List ℕ) (a : AcceptedUnder limit f register b g) where
  abbrev vs : List ℕ
  vs = judged_under limit f register

  s : Sound f register vs
  s = accepted_sound limit f register b g a

  -- the register after it is in order, of as many slots
  after_order : in_order b ≡ true
  after_order = rw a.after (after_holds f register vs s).order

  after_many : slots_in b ≡ slots_in register
  after_many = rw a.after (after_holds f register vs s).many

  -- the copy of another mirrors it as it was
  another_step : (who copy : List ℕ) → eqs (sender f.hgv) who ≡ false → Mirrors who register copy → Mirrors who b copy
  another_step who copy d m = rw a.after (another_mirrors f register vs s who copy d m)

  -- the sender's, updated by what was sent back, mirrors it again, and the update answered the import's own counts
  applied_step : (copy : List ℕ) → Mirrors (sender f.hgv) register copy → (u : Counted) (c : List ℕ) → Update (sent f.mode f.offset f.hgv g) copy u c
      → Mirrors (sender f.hgv) b c × (u ≡ own_counts vs)
  unfolding Update
  applied_step copy m u c (x, y) = rw (a.after, x, y, a.sent_back) (update_mirrors f register vs s copy m, update_answer_lem f register vs s copy m)

-- ---- every sequence

-- nothing was sent back, and nothing is applied
none_replayed : {n : ℕ} {copy : List ℕ} {us : List Answer} → n ≤ slots_most → Replay n [] copy us → Holds n [] copy × (us ≡ [])
none_replayed {n} m start = (start_holds n m, refl)

start_stands : (n : ℕ) (who : List ℕ) → n ≤ slots_most → Stands n who (empty n) []
unfolding his own sift
start_stands n who m =
    let s : Holds n [] (empty n) = start_holds n m in
    record { order = s.order; many = s.many; replayed = λ copy us p. rw s.held (none_replayed m p) }

module _ {n : ℕ} {who register : List ℕ} {es : List Event} (s : Stands n who register es) (limit : List ℕ → Bool) (f : Handed) (b g : List ℕ) (a : AcceptedUnder limit f register b g) where
  -- an accepted file, his or another's
  abbrev event : Event
  event = acceptance_by (judged_under limit f register) f g

  accepted_replayed : (t : Bool) → eqs (sender f.hgv) who ≡ t → (copy : List ℕ) (us : List Answer)
      → Replay n (entries (onto t event (his who es))) copy us → Holds n (own who (records b)) copy × (us ≡ answers who (onto t event (his who es)))
  unfolding onto acceptance_by
  accepted_replayed true e c us₁ (applied {copy = copy} {us = us} p x u c₁ d) =
      let m : Holds n (own who (records register)) copy × (us ≡ answers who (his who es)) = s.replayed copy us p in
      let w : eqs (sender f.hgv) who ≡ true = e in
      let k = applied_step limit f register b g a copy (rw (s.many, eqs_true (sender f.hgv) who w) m.0) u c d in
      (rw (← eqs_true (sender f.hgv) who w, ← s.many, ← after_many limit f register b g a) k.0, rw (k.1, m.1))
  accepted_replayed false e c us p =
      let m = s.replayed c us p in
      (rw (← s.many, ← after_many limit f register b g a) (another_step limit f register b g a who c e (rw s.many m.0)), m.1)

  accepted_stands : Stands n who b (event ∷ es)
  unfolding his sift concerns acceptance_by
  accepted_stands =
      record {
        order = after_order limit f register b g a;
        many = after_many limit f register b g a ∙ s.many;
        replayed = accepted_replayed (eqs (sender f.hgv) who) refl;
      }

-- a sweep, whose time everyone is told
module _ {n : ℕ} {who register : List ℕ} {es : List Event} (s : Stands n who register es) (t : List ℕ) (r : Swept) (b : List ℕ) (o : Sweep t register r b) where
  swept_replayed : (copy : List ℕ) (us : List Answer)
      → Replay n (sweep t ∷ entries (his who es)) copy us → Holds n (own who (records b)) copy × (us ≡ answers who (sweeping t register r b ∷ his who es))
  unfolding sweeping
  swept_replayed c us₁ (swept {copy = copy} {us = us} p x u c₁ d) =
      let m : Holds n (own who (records register)) copy × (us ≡ answers who (his who es)) = s.replayed copy us p in
      let k = both_swept t register r b o s.order who n copy m.0 u c d in
      (k.0, rw (k.1, m.1))

  swept_stands : Stands n who b (sweeping t register r b ∷ es)
  unfolding his sift onto concerns sweeping
  swept_stands =
      let a = after_sweep t register r b o s.order in
      record { order = a.0; many = a.1 ∙ s.many; replayed = swept_replayed }

-- T13, each import under the limits of its day
pub stands_under : {n : ℕ} {register : List ℕ} {es : List Event} → OursUnder n register es → (who : List ℕ) → Stands n who register es
stands_under {n} (start m) who = start_stands n who m
stands_under (accepted s limit f b g a) who = accepted_stands (stands_under s who) limit f b g a
stands_under (swept s t r b o) who = swept_stands (stands_under s who) t r b o

-- our side is such a sequence, under today's limits throughout
under_today : {n : ℕ} {register : List ℕ} {es : List Event} → Ours n register es → OursUnder n register es
under_today (start m) = start m
under_today (accepted s f r b g o z) = rw (told_today f _ r b g o z) (accepted (under_today s) weight_holds f b (take r.length g) (accepted_today f _ r b g o z))
under_today (refused s f r b g o k) = rw (refused_register f _ r b g o k) (under_today s)
under_today (swept s t r b o) = swept (under_today s) t r b o
under_today (idle s t r b o z) = rw (idle_register t _ r b o z) (under_today s)

-- T13
pub stands : {n : ℕ} {register : List ℕ} {es : List Event} → Ours n register es → (who : List ℕ) → Stands n who register es
stands s = stands_under (under_today s)

-- ---- he needs nothing else

-- two replays of the same end in the same bytes and the same answers
pub replay_one : {n : ℕ} {es : List Entry} {c c' : List ℕ} {us us' : List Answer} → Replay n es c us → Replay n es c' us' → (c ≡ c') × (us ≡ us')
replay_one start start = (refl, refl)
replay_one (applied {copy = copy} p s u c o) (applied {copy = copy'} p' s' u' c' o') =
    let e = replay_one p p' in
    let d = update_one s copy u u' c c' o (rw (← e.0) at o') in
    (d.1, rw (d.0, e.1))
replay_one (swept {copy = copy} p t u c o) (swept {copy = copy'} p' t' u' c' o') =
    let e = replay_one p p' in
    let d = sweep_one t copy u u' c c' o (rw (← e.0) at o') in
    (d.1, rw (d.0, e.1))

-- ---- there are such sequences

-- it goes on whatever is handed over next, and whatever of the outcomes that the contract admits comes of it
pub goes_on : {n : ℕ} {register : List ℕ} {es : List Event} → Ours n register es → (f : Handed) (r : Imported) (b g : List ℕ) → Import f register r b g
    → (vs : List Event) × Ours n b vs
goes_on {n} {es = es} s f r b g o = go (eqb r.number 0) refl
  where
    go : (t : Bool) → eqb r.number 0 ≡ t → (vs : List Event) × Ours n b vs
    go true e = (_, accepted s f r b g o (eqb-true r.number 0 e))
    go false e = (es, refused s f r b g o (eqb-false r.number 0 e))
