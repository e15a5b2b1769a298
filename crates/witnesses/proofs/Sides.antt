-- Seven files of two providers: a rejected line, another provider, a refused file, the full list, a full list that is too thin, an
-- account replaced, and a refused file again. Then a register that is full of what has ended, which a sweep empties for the next file. And a
-- night in which summer time begins, with a file on each side of it. The copies are updated afterwards, and hold what we hold for each: so demand 3 speaks of sequences that there are. Assumes nothing.
use Rattle.std.specs.Prelude.{◌≡◌, refl, true, false, List, [], ◌∷◌, ◌++◌, ℕ, ◌+◌, ◌*◌, ℤ, pos}
use Rattle.std.proofs.Common.{sym, ◌∙◌, arith}
use Rattle.theory.specs.Text.{bytes}
use Rattle.theory.specs.Same.{eqs}
use Rattle.theory.specs.Keep.{onto, sift}
use Rattle.theory.specs.Join.{flat}
use Rattle.theory.specs.Pad.{pad}
use Rattle.texts.specs.Field.{field}
use Rattle.sizes.specs.Sizes.{slot_length}
use Rattle.times.specs.Time.{real_time}
use Rattle.times.specs.laws.Almanac.{seconds_by, seconds_by_lem}
use Rattle.offsets.specs.Offset.{offset_holds, local, utc, reception_holds, utc_holds}
use Rattle.offsets.specs.Ahead.{ahead_of}
use Rattle.offsets.specs.laws.Shift.{shown_is, local_back, local_utc}
use Rattle.answers.specs.Layout.{reception_of}
use Rattle.receipts.specs.Receipt.{receipt_holds}
use Rattle.provider.specs.Counted.{Counted}
use Rattle.slots.specs.Slots.{records}
use Rattle.imports.specs.Imported.{Imported}
use Rattle.importer.specs.Promises.{Import}
use Rattle.imports.specs.Promises.{ImportJudged}
use Rattle.imports.specs.Shown.{answer_as, register_as, hgc_as}
use Rattle.imports.proofs.Shown.{zero_as, shown_as}
use Rattle.updating.specs.Sent.{Sent, sent}
use Rattle.updating.specs.Promises.{Update}
use Rattle.updating.specs.Shown as updates
use Rattle.updating.specs.Shown.{copy_as}
use Rattle.updating.specs.Update.{sent_holds}
use Rattle.updating.proofs.Shown as update_laws
use Rattle.updating.specs.laws.Outcomes.{update_one}
use Rattle.demands.specs.Own.{own}
use Rattle.imports.specs.Handed.{Handed}
use Rattle.sweeping.specs.Swept.{Swept}
use Rattle.sweeping.specs.Sweep.{sweep_answer, register_swept}
use Rattle.sweeping.specs.Promises.{Sweep}
use Rattle.demands.specs.History.{apply, sweep, of_update, of_sweep, acceptance, sweeping, concerns, his, entries, empty, ◌▸◌, Ours, start, accepted, refused, swept, Replay, applied}
use Rattle.demands.proofs.Demand3.{copy_is}
use Rattle.witnesses.specs.Files as files
use Rattle.witnesses.specs.Computed.{answer_to, after, buffer_after, counts4, file₁, file₂, file₃, file₄, file₅, file₆, file₇, theirs, register₁, register₂, register₄, register₆, hgc₁, hgc₂, hgc₄, hgc₆, Seven, Late, sent_with, his₆, copy_by, answers_by, counts3, file₈, file₉, file₁₀, ended_by, begun, packed, emptied, refilled, hgc₈, hgc₁₀, went, Emptied, computed, answer_by, updated_by, file₁₁, file₁₂, register₁₁, register₁₂, hgc₁₁, hgc₁₂, Summer}
use Rattle.witnesses.specs.Sides.{events₁, events₂, events₄, events, told₈, told₂, told_swept, told, told₁₁, told₁₂}

seven : Seven
seven = computed.1.0

-- an outcome of an import, told by what was computed
outcome : (f : Handed) (register : List ℕ) (r : Imported) (b : List ℕ) → f.offset ≡ pos 0 → answer_to register f ≡ r → after register f ≡ b → Import f register r b (buffer_after register f)
unfolding ImportJudged
outcome f register r b z e d = let k = zero_as f register z in (sym (k.answer ∙ e), (sym (k.after ∙ d), sym k.buffer))

-- and of an update
updated : (s : Sent) (copy : List ℕ) → s.offset ≡ pos 0 → Update s copy (answer_by copy s) (updated_by copy s)
unfolding Update
updated s copy z = let k = update_laws.zero_as s copy z in (sym k.answer, sym k.after)

-- our side
pub seven_files : Ours 3 register₆ events
seven_files =
    let s₀ : Ours 3 (empty 3) [] = start (omega arith) in
    let s₁ : Ours 3 register₁ events₁ = accepted s₀ file₁ _ _ _ (outcome file₁ (empty 3) (counts4 0 1 1 304) register₁ refl seven.answer₁ seven.after₁) refl in
    let s₂ : Ours 3 register₂ events₂ = accepted s₁ file₂ _ _ _ (outcome file₂ register₁ (counts4 0 1 0 174) register₂ refl seven.answer₂ seven.after₂) refl in
    let s₃ : Ours 3 register₂ events₂ = refused s₂ file₃ _ _ _ (outcome file₃ register₂ (counts4 30 0 0 0) register₂ refl seven.answer₃ seven.after₃) (λ z. omega arith) in
    let s₄ : Ours 3 register₄ events₄ = accepted s₃ file₄ _ _ _ (outcome file₄ register₂ (counts4 0 2 0 174) register₄ refl seven.answer₄ seven.after₄) refl in
    let s₅ : Ours 3 register₄ events₄ = refused s₄ file₅ _ _ _ (outcome file₅ register₄ (counts4 35 0 0 0) register₄ refl seven.answer₅ seven.after₅) (λ z. omega arith) in
    let s₆ : Ours 3 register₆ events = accepted s₅ file₆ _ _ _ (outcome file₆ register₄ (counts4 0 1 0 174) register₆ refl seven.answer₆ seven.after₆) refl in
    refused s₆ file₇ _ _ _ (outcome file₇ register₆ (counts4 33 0 0 0) register₆ refl seven.answer₇ seven.after₇) (λ z. omega arith)

-- of it the first provider's, as he applies it late
his_are : entries (his files.one events) ≡ [] ▸ apply (sent_with file₁ hgc₁) ▸ apply (sent_with file₄ hgc₄) ▸ apply (sent_with file₆ hgc₆)
unfolding his sift onto concerns acceptance eqs field
his_are = rw (seven.hgc_is₁, seven.hgc_is₄, seven.hgc_is₆)

-- and the other's
theirs_are : entries (his files.another events) ≡ [] ▸ apply (sent_with file₂ hgc₂)
unfolding his sift onto concerns acceptance eqs field
theirs_are = rw seven.hgc_is₂

-- his side, as it was computed
pub his_copy : Replay 3 (entries (his files.one events)) his₆ (counts3 0 1 0 ∷ counts3 0 2 0 ∷ counts3 0 1 1 ∷ [])
unfolding copy_by answers_by
his_copy =
    let l : Late = computed.1.1.0 in
    rw (his_are, ← l.copy_is, ← l.answers_are)
    (applied (applied (applied start (sent_with file₁ hgc₁) _ _ (updated (sent_with file₁ hgc₁) _ refl)) (sent_with file₄ hgc₄) _ _ (updated (sent_with file₄ hgc₄) _ refl)) (sent_with file₆ hgc₆) _ _ (updated (sent_with file₆ hgc₆) _ refl))

-- and the other's
pub their_copy : Replay 3 (entries (his files.another events)) (theirs ++ files.free ++ files.free) (counts3 0 1 0 ∷ [])
unfolding copy_by answers_by
their_copy =
    let l : Late = computed.1.1.0 in
    rw (theirs_are, ← l.their_copy, ← l.their_answers) (applied start (sent_with file₂ hgc₂) _ _ (updated (sent_with file₂ hgc₂) _ refl))

-- it is what demand 3 says
pub both_sides : his₆ ≡ flat (pad slot_length 3 (own files.one (records register₆)))
both_sides = copy_is seven_files files.one his_copy

-- ---- a full register, and a sweep

facts : Emptied
facts = computed.1.1.1.0

-- an outcome of a sweep, told by what was computed
swept_outcome : (t register : List ℕ) (r : Swept) (b : List ℕ) → sweep_answer t register ≡ r → register_swept t register ≡ b → Sweep t register r b
unfolding Sweep
swept_outcome t register r b e d = (sym e, sym d)

-- our side: his list and the other's, a list that finds no slot, the sweep, one that is refused, and a list that finds the slot
pub full_and_swept : Ours 2 refilled told
full_and_swept =
    let s₀ : Ours 2 (empty 2) [] = start (omega arith) in
    let s₁ : Ours 2 begun told₈ = accepted s₀ file₈ _ _ _ (outcome file₈ (empty 2) (counts4 0 1 0 174) begun refl facts.answer₈ facts.after₈) refl in
    let s₂ : Ours 2 packed told₂ = accepted s₁ file₂ _ _ _ (outcome file₂ begun (counts4 0 1 0 174) packed refl facts.answer₂ facts.after₂) refl in
    let s₃ : Ours 2 packed told₂ = refused s₂ file₉ _ _ _ (outcome file₉ packed (counts4 33 0 0 0) packed refl facts.answer₉ facts.after₉) (λ z. omega arith) in
    let s₄ : Ours 2 emptied (told₂ ▸ sweeping files.reception packed (went 0 1) emptied) = swept s₃ files.reception _ _ (swept_outcome files.reception packed (went 0 1) emptied facts.swept_answer facts.swept_register) in
    let s₅ : Ours 2 emptied told_swept = swept s₄ files.unreal _ _ (swept_outcome files.unreal emptied (went 22 0) emptied facts.unreal_answer facts.unreal_register) in
    accepted s₅ file₁₀ _ _ _ (outcome file₁₀ emptied (counts4 0 1 0 174) refilled refl facts.answer₁₀ facts.after₁₀) refl

-- of it what is his, and what is the other's, who sent nothing after the sweep
his_told : entries (his files.one told) ≡ [] ▸ apply (sent_with file₈ hgc₈) ▸ sweep files.reception ▸ sweep files.unreal ▸ apply (sent_with file₁₀ hgc₁₀)
unfolding his sift onto concerns acceptance sweeping eqs field
his_told = rw (facts.hgc_is₈, facts.hgc_is₁₀)

their_told : entries (his files.another told) ≡ [] ▸ apply (sent_with file₂ hgc₂) ▸ sweep files.reception ▸ sweep files.unreal
unfolding his sift onto concerns acceptance sweeping eqs field
their_told = rw facts.hgc_is₂

-- his side and the other's, as they were computed
pub his_swept : Replay 2 (entries (his files.one told)) (ended_by (bytes "10") ++ files.free) (counts3 0 1 0 ∷ of_sweep (went 22 0) ∷ of_sweep (went 0 1) ∷ counts3 0 1 0 ∷ [])
unfolding Sweep copy_by answers_by
his_swept =
    rw (his_told, ← facts.his_copy, ← facts.his_answers)
    (applied (swept (swept (applied start (sent_with file₈ hgc₈) _ _ (updated (sent_with file₈ hgc₈) _ refl)) files.reception _ _ (refl, refl)) files.unreal _ _ (refl, refl)) (sent_with file₁₀ hgc₁₀) _ _ (updated (sent_with file₁₀ hgc₁₀) _ refl))

pub their_swept : Replay 2 (entries (his files.another told)) emptied (of_sweep (went 22 0) ∷ of_sweep (went 0 0) ∷ counts3 0 1 0 ∷ [])
unfolding Sweep copy_by answers_by
their_swept =
    rw (their_told, ← facts.their_copy, ← facts.their_answers)
    (swept (swept (applied start (sent_with file₂ hgc₂) _ _ (updated (sent_with file₂ hgc₂) _ refl)) files.reception _ _ (refl, refl)) files.unreal _ _ (refl, refl))

-- they are what demand 3 says
pub his_part : ended_by (bytes "10") ++ files.free ≡ flat (pad slot_length 2 (own files.one (records refilled)))
his_part = copy_is full_and_swept files.one his_swept

pub their_part : emptied ≡ flat (pad slot_length 2 (own files.another (records refilled)))
their_part = copy_is full_and_swept files.another their_swept

-- ---- summer time between two files

night : Summer
night = computed.1.1.1.1

-- t' is the local time of t
module _ (o : ℤ) (t t' : List ℕ) (i : offset_holds o ≡ true) (r : real_time t ≡ true) (r' : real_time t' ≡ true) (e : seconds_by t' + 43200 ≡ seconds_by t + ahead_of o * 60) where
  shown_at : (reception_holds o t ≡ true) × (local o t ≡ t')
  shown_at = shown_is o t t' i r r' (rw (seconds_by_lem t, seconds_by_lem t') e)

  -- and t the UTC time of t'
  utc_at : (utc_holds o t' ≡ true) × (utc o t' ≡ t)
  utc_at = rw (← shown_at.1) (local_utc o t shown_at.0, local_back o t shown_at.0)

-- an outcome of an import at an offset, told by what was computed
outcome_at : (f : Handed) (register t : List ℕ) (r : Imported) (b : List ℕ) → (reception_holds f.offset f.reception ≡ true) × (local f.offset f.reception ≡ t)
    → answer_as true t f register ≡ r → register_as true t f register ≡ b → Import f register r b (hgc_as true t f register)
unfolding ImportJudged
outcome_at f register t r b k e d = let a = shown_as f register true t k.0 k.1 in (sym (a.answer ∙ e), (sym (a.after ∙ d), sym a.buffer))

-- and of an update
updated_at : (s : Sent) (copy t : List ℕ) → receipt_holds s.hgv s.hgc ≡ true → (utc_holds s.offset (reception_of s.hgc) ≡ true) × (utc s.offset (reception_of s.hgc) ≡ t)
    → Update s copy (updates.answer_as true t s copy) (copy_as true t s copy)
unfolding Update sent_holds
updated_at s copy t h k = let a = update_laws.shown_as s copy true t (rw (h, k.0)) k.1 in (sym a.answer, sym a.after)

winter_at : (reception_holds (pos 60) files.winter ≡ true) × (local (pos 60) files.winter ≡ files.winter_shown)
unfolding offset_holds ahead_of
winter_at = shown_at (pos 60) files.winter files.winter_shown refl night.winter_real night.winter_shown_lem night.winter_by

summer_at : (reception_holds (pos 120) files.summer ≡ true) × (local (pos 120) files.summer ≡ files.summer_shown)
unfolding offset_holds ahead_of
summer_at = shown_at (pos 120) files.summer files.summer_shown refl night.summer_real night.summer_shown_lem night.summer_by

-- our side: an hour ahead of UTC, and two
pub two_clocks : Ours 2 register₁₂ told₁₂
two_clocks =
    let s₀ : Ours 2 (empty 2) [] = start (omega arith) in
    let s₁ : Ours 2 register₁₁ told₁₁ = accepted s₀ file₁₁ _ _ _ (outcome_at file₁₁ (empty 2) files.winter_shown (counts4 0 1 0 174) register₁₁ winter_at night.answer₁₁ night.after₁₁) refl in
    accepted s₁ file₁₂ _ _ _ (outcome_at file₁₂ register₁₁ files.summer_shown (counts4 0 1 0 174) register₁₂ summer_at night.answer₁₂ night.after₁₂) refl

-- his side, at the same offsets
his_clocks : entries (his files.one told₁₂) ≡ [] ▸ apply (sent_with file₁₁ hgc₁₁) ▸ apply (sent_with file₁₂ hgc₁₂)
unfolding his sift onto concerns acceptance eqs field
his_clocks = rw (night.hgc_is₁₁, night.hgc_is₁₂)

winter_utc : (utc_holds (pos 60) (reception_of hgc₁₁) ≡ true) × (utc (pos 60) (reception_of hgc₁₁) ≡ files.winter)
unfolding offset_holds ahead_of
winter_utc = rw night.reception₁₁ (utc_at (pos 60) files.winter files.winter_shown refl night.winter_real night.winter_shown_lem night.winter_by)

summer_utc : (utc_holds (pos 120) (reception_of hgc₁₂) ≡ true) × (utc (pos 120) (reception_of hgc₁₂) ≡ files.summer)
unfolding offset_holds ahead_of
summer_utc = rw night.reception₁₂ (utc_at (pos 120) files.summer files.summer_shown refl night.summer_real night.summer_shown_lem night.summer_by)

pub his_copy_at : Replay 2 (entries (his files.one told₁₂)) register₁₂
    (of_update (updates.answer_as true files.summer (sent_with file₁₂ hgc₁₂) register₁₁) ∷ of_update (updates.answer_as true files.winter (sent_with file₁₁ hgc₁₁) (empty 2)) ∷ [])
his_copy_at =
    rw his_clocks
    (applied (applied start (sent_with file₁₁ hgc₁₁) _ register₁₁ (rw night.updated₁₁ at (updated_at (sent_with file₁₁ hgc₁₁) (empty 2) files.winter night.receipt₁₁ winter_utc)))
    (sent_with file₁₂ hgc₁₂) _ register₁₂ (rw night.updated₁₂ at (updated_at (sent_with file₁₂ hgc₁₂) register₁₁ files.summer night.receipt₁₂ summer_utc)))

-- it is what demand 3 says
pub both_clocks : register₁₂ ≡ flat (pad slot_length 2 (own files.one (records register₁₂)))
both_clocks = copy_is two_clocks files.one his_copy_at

-- and by the winter's offset the second file leaves another copy: he needs the offset of each
mistaken_utc : (utc_holds (pos 60) (reception_of hgc₁₂) ≡ true) × (utc (pos 60) (reception_of hgc₁₂) ≡ files.mistaken)
unfolding offset_holds ahead_of
mistaken_utc = rw night.reception₁₂ (utc_at (pos 60) files.mistaken files.summer_shown refl night.mistaken_real night.summer_shown_lem night.mistaken_by)

pub wrong_offset : (u : Counted) (c : List ℕ) → Update (sent 1 (pos 60) file₁₂.hgv hgc₁₂) register₁₁ u c → eqs c register₁₂ ≡ false
wrong_offset u c o =
    let s : Sent = sent 1 (pos 60) file₁₂.hgv hgc₁₂ in
    rw (update_one s register₁₁ u _ c _ o (updated_at s register₁₁ files.mistaken night.receipt₁₂ mistaken_utc)).1 night.mistaken₁₂
