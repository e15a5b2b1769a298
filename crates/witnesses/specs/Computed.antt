-- What the definitions say of small files, computed: single files, two in a row, seven of two providers with the copy of one, updated
-- late, and a full register that is swept, with the copies of both. Assumes nothing.
use Rattle.std.specs.Prelude.{◌≡◌, refl, true, false, List, [], ◌∷◌, ◌++◌, take, drop, ℕ, ◌+◌, ◌*◌, pos}
use Rattle.theory.specs.Text.{bytes}
use Rattle.theory.specs.Count.{bump, count}
use Rattle.theory.specs.Distinct.{distinct}
use Rattle.theory.specs.Every.{all, run, leading}
use Rattle.theory.specs.First.{choose, first}
use Rattle.theory.specs.Join.{flat}
use Rattle.theory.specs.Keep.{onto, sift}
use Rattle.theory.specs.Pad.{free, pad, front_on, front}
use Rattle.theory.specs.Parts.{chop}
use Rattle.theory.specs.Pick.{good, bad, pick}
use Rattle.theory.specs.Same.{eqs, mem}
use Rattle.theory.specs.Scan.{taken_next, scan}
use Rattle.theory.specs.Tally.{tally}
use Rattle.theory.specs.Walk.{each, some}
use Rattle.texts.specs.Field.{field, listed}
use Rattle.characters.specs.Characters.{filled_to, filled}
use Rattle.numbers.specs.Number.{number_after, number, decimal, zeros}
use Rattle.pans.specs.Pan.{pan, doubled, addend, luhn_sum, luhn}
use Rattle.plates.specs.Plate.{allowed, plate, nationality, separated, separator}
use Rattle.issuers.specs.Rows.{row_holds, rows_hold, sent_by, row_begins, row_fits, known, some_row_begins, some_row_fits}
use Rattle.calendar.specs.Calendar.{days_in, sum}
use Rattle.times.specs.Time.{real_time, real_date}
use Rattle.vehicles.specs.Vehicle.{tariff_holds, class_holds, emission_holds, product_holds, engine_holds, valid_to_holds, separator_holds, fields_hold, vehicle_holds}
use Rattle.weights.specs.Weights.{limits, meets, meets_each, missing, allows, weight_holds}
use Rattle.times.specs.Order.{earlier}
use Rattle.times.specs.laws.Almanac.{seconds_by, days_by}
use Rattle.lines.specs.End.{end_of, record_of}
use Rattle.lines.specs.Rules.{L1, L2, L3, L4, L5, L6, L7, nationality_blank, L8, L9, rules_by, line_rules, record_holds, L10}
use Rattle.lines.specs.laws.Starred.{starred}
use Rattle.stamps.specs.Stamp.{stamp, stamp_holds}
use Rattle.records.specs.Slot.{slot_of}
use Rattle.slots.specs.Slots.{slots_of, marked, records, used_part}
use Rattle.register.specs.Register.{used_form, free_form, in_order}
use Rattle.slots.specs.Search.{holds_pan, place_of, of_actor, holds_foreign, held_by_another, count_of}
use Rattle.hgv.specs.Layout.{width_of, lines_in, length_holds, body, lines_of, footer}
use Rattle.frames.specs.Frames.{footer_form, foot, footer_holds, framed, frames_hold}
use Rattle.sequences.specs.Sequence.{sequence}
use Rattle.header.specs.Header.{previous_holds, header_holds}
use Rattle.claims.specs.Claims.{version_holds, incremental_only, receiver_holds, count_holds}
use Rattle.hgc.specs.Confirmation.{outcome, head, answer, answers, confirmation}
use Rattle.hgc.specs.laws.Confirmation.{said}
use Rattle.verdicts.specs.Verdict.{own_rules, verdict_rules, verdict, verdicts_of, file_verdicts, taken}
use Rattle.verdicts.specs.laws.Verdict.{rejected}
use Rattle.holdings.specs.Holdings.{stored_on, stored, stored_all, others, replaced_all, holdings}
use Rattle.sizes.specs.Modes.{is_full}
use Rattle.holdings.specs.Room.{used_after}
use Rattle.thinness.specs.Thin.{thin}
use Rattle.stops.specs.Stops.{mode_holds, full_with220001, addressed, call_stops, file_stops, form_stops, form_stop}
use Rattle.theory.specs.Stopped.{unless_stopped}
use Rattle.imports.specs.Handed.{Handed}
use Rattle.imports.specs.Import.{judged, following, refusal, register_written}
use Rattle.imports.specs.Shown.{confirmed_as, stops_as, number_as, answer_as, register_as, hgc_as}
use Rattle.imports.specs.Imported.{Imported}
use Rattle.pairing.specs.Pairing.{is_taken, marks_from, marks, left}
use Rattle.answers.specs.Layout.{answers_in, behind_head, answers_of, reception_of}
use Rattle.receipts.specs.Receipt.{length_form, head_form, answer_form, form_holds, names_hold, outcome_holds, reason_holds, texts_of, copies_of, marks_of, taken_by, same_texts, copies_hold, counts_hold, line_holds, taken_hold, says_hold, lines_hold, receipt_holds}
use Rattle.provider.specs.Counted.{Counted}
use Rattle.provider.specs.Answer.{stop_counts, success_counts}
use Rattle.updating.specs.Sent.{Sent, sent}
use Rattle.copies.specs.Copy.{own_holds, copy_stops}
use Rattle.updating.specs.Shown as updates
use Rattle.updating.specs.Shown.{following_as, copy_as}
use Rattle.sweeping.specs.Swept.{Swept}
use Rattle.sweeping.specs.Sweep.{ended, going, staying, sweep_stops, sweep_number, sweep_answer, swept_bytes, register_swept}
use Rattle.demands.specs.History.{Entry, apply, sweep, Answer, of_update, of_sweep, empty}
use Rattle.witnesses.specs.Files as files

-- what is handed over with a file
abbrev pub with : ℕ → List ℕ → Handed
with mode h = record { mode = mode; reception = files.reception; offset = pos 0; rows = files.rows; hgv = h; hgc = files.buffer }

-- the answer to it beside this register, the register after it, and the buffer: as with no offset, which is what this is
abbrev pub answer_to : List ℕ → Handed → Imported
answer_to register f = answer_as (real_time f.reception) f.reception f register

abbrev pub after : List ℕ → Handed → List ℕ
after register f = register_as (real_time f.reception) f.reception f register

abbrev pub buffer_after : List ℕ → Handed → List ℕ
buffer_after register f = hgc_as (real_time f.reception) f.reception f register

abbrev pub counts4 : ℕ → ℕ → ℕ → ℕ → Imported
counts4 number taken rejected size = record { number = number; taken = taken; rejected = rejected; length = size }

-- ---- single files, and two in a row

-- a register of two slots after one list, and after two
abbrev pub held₁ : List ℕ
held₁ = files.slot files.one (bytes "01") files.line ++ files.free

abbrev pub held₂ : List ℕ
held₂ = files.slot files.one (bytes "01") files.line ++ files.slot files.one (bytes "02") files.other

pub record Single : Type 0 where
  -- a good line on one free slot is taken, and that slot then holds the record
  pub good_answer : answer_to (empty 1) (with 1 files.good) ≡ counts4 0 1 0 174
  pub good_register : after (empty 1) (with 1 files.good) ≡ files.slot files.one (bytes "01") files.line
  -- the definition's whole case, to the byte
  pub empty_answer : answer_to (empty 1) (with 1 files.empty) ≡ counts4 0 0 0 174
  pub empty_hgc : take 174 (buffer_after (empty 1) (with 1 files.empty)) ≡ files.whole
  -- a bad line, rejected
  pub bad_answer : answer_to (empty 1) (with 1 files.bad) ≡ counts4 0 0 1 304
  pub bad_hgc_lem : take 304 (buffer_after (empty 1) (with 1 files.bad)) ≡ files.bad_hgc
  pub different : eqs files.whole files.bad_hgc ≡ false
  -- two imports, one after the other: both records are there
  pub first_register : after (empty 2) (with 1 files.good) ≡ held₁
  pub both_register : after held₁ (with 1 files.next) ≡ held₂
  pub both_different : eqs held₁ held₂ ≡ false
  -- an account that has ended, sent twice: the slot holds its end, and the HGC has the Valid to that was sent
  pub ended_register : after (empty 1) (with 1 files.twice) ≡ files.slot files.one (bytes "01") files.stored
  pub ended_hgc : drop 110 (buffer_after (empty 1) (with 1 files.twice)) ≡ files.answered ++ files.footer

-- ---- seven files of two providers, on three slots

-- a faulty line and a right one with its PAN; a line of the other provider; a count that is wrong; the full list, in another order; a full
-- list without a line; an account replaced; and one account too many
abbrev pub file₁ : Handed
file₁ = with 1 (files.file files.one (bytes "01") files.double (files.wrong ++ files.line))

abbrev pub file₂ : Handed
file₂ = with 1 (files.file files.another (bytes "02") files.single files.foreign)

abbrev pub file₃ : Handed
file₃ = with 1 (files.file files.one (bytes "03") files.double files.other)

abbrev pub file₄ : Handed
file₄ = with 2 (files.file files.one (bytes "04") files.double (files.other ++ files.line))

abbrev pub file₅ : Handed
file₅ = with 2 (files.file files.one (bytes "05") files.none [])

abbrev pub file₆ : Handed
file₆ = with 1 (files.file files.one (bytes "06") files.single files.replaced)

abbrev pub file₇ : Handed
file₇ = with 1 (files.file files.one (bytes "07") files.single files.third)

-- the other provider's slot throughout
abbrev pub theirs : List ℕ
theirs = files.slot files.another (bytes "02") files.foreign

-- the registers between them
abbrev pub register₁ : List ℕ
register₁ = files.slot files.one (bytes "01") files.line ++ files.free ++ files.free

abbrev pub register₂ : List ℕ
register₂ = files.slot files.one (bytes "01") files.line ++ theirs ++ files.free

abbrev pub register₄ : List ℕ
register₄ = theirs ++ files.slot files.one (bytes "04") files.other ++ files.slot files.one (bytes "04") files.line

abbrev pub register₆ : List ℕ
register₆ = theirs ++ files.slot files.one (bytes "04") files.other ++ files.slot files.one (bytes "06") files.replaced

-- the HGCs of those accepted
abbrev pub hgc₁ : List ℕ
hgc₁ = files.confirmed files.one (bytes "01") files.single files.single (bytes "01") files.wrong_answer

abbrev pub hgc₂ : List ℕ
hgc₂ = files.confirmed files.another (bytes "02") files.single files.none (bytes "00") []

abbrev pub hgc₄ : List ℕ
hgc₄ = files.confirmed files.one (bytes "04") files.double files.none (bytes "00") []

abbrev pub hgc₆ : List ℕ
hgc₆ = files.confirmed files.one (bytes "06") files.single files.none (bytes "00") []

pub record Seven : Type 0 where
  pub answer₁ : answer_to (empty 3) file₁ ≡ counts4 0 1 1 304
  pub after₁ : after (empty 3) file₁ ≡ register₁
  pub hgc_is₁ : take 304 (buffer_after (empty 3) file₁) ≡ hgc₁
  pub answer₂ : answer_to register₁ file₂ ≡ counts4 0 1 0 174
  pub after₂ : after register₁ file₂ ≡ register₂
  pub hgc_is₂ : take 174 (buffer_after register₁ file₂) ≡ hgc₂
  -- 30
  pub answer₃ : answer_to register₂ file₃ ≡ counts4 30 0 0 0
  pub after₃ : after register₂ file₃ ≡ register₂
  pub answer₄ : answer_to register₂ file₄ ≡ counts4 0 2 0 174
  pub after₄ : after register₂ file₄ ≡ register₄
  pub hgc_is₄ : take 174 (buffer_after register₂ file₄) ≡ hgc₄
  -- 35
  pub answer₅ : answer_to register₄ file₅ ≡ counts4 35 0 0 0
  pub after₅ : after register₄ file₅ ≡ register₄
  pub answer₆ : answer_to register₄ file₆ ≡ counts4 0 1 0 174
  pub after₆ : after register₄ file₆ ≡ register₆
  pub hgc_is₆ : take 174 (buffer_after register₄ file₆) ≡ hgc₆
  -- 33
  pub answer₇ : answer_to register₆ file₇ ≡ counts4 33 0 0 0
  pub after₇ : after register₆ file₇ ≡ register₆

-- ---- the copies of the two, updated afterwards

-- what a provider was sent with a file
abbrev pub sent_with : Handed → List ℕ → Sent
sent_with f hgc = sent f.mode f.offset f.hgv hgc

-- the answer to it beside this copy, and the copy after it, the same way
abbrev pub answer_by : List ℕ → Sent → Counted
answer_by copy s = updates.answer_as (receipt_holds s.hgv s.hgc) (reception_of s.hgc) s copy

abbrev pub updated_by : List ℕ → Sent → List ℕ
updated_by copy s = copy_as (receipt_holds s.hgv s.hgc) (reception_of s.hgc) s copy

-- the copy after these were done, one after the other
unfoldable pub copy_by : List ℕ → List Entry → List ℕ
copy_by copy [] = copy
copy_by copy (apply s ∷ es) = copy_by (updated_by copy s) es
copy_by copy (sweep t ∷ es) = copy_by (register_swept t copy) es

-- and what they answered, the last in front
unfoldable pub answers_by : List ℕ → List Answer → List Entry → List Answer
answers_by copy us [] = us
answers_by copy us (apply s ∷ es) = answers_by (updated_by copy s) (of_update (answer_by copy s) ∷ us) es
answers_by copy us (sweep t ∷ es) = answers_by (register_swept t copy) (of_sweep (sweep_answer t copy) ∷ us) es

abbrev pub counts3 : ℕ → ℕ → ℕ → Answer
counts3 number taken rejected = of_update (record { number = number; taken = taken; rejected = rejected })

-- where a provider starts, and what the first of them applies
abbrev pub started : List ℕ
started = empty 3

abbrev pub late : List Entry
late = apply (sent_with file₁ hgc₁) ∷ apply (sent_with file₄ hgc₄) ∷ apply (sent_with file₆ hgc₆) ∷ []

-- what he holds then: an account that the full list touched last, and one that the last list replaced
abbrev pub his₆ : List ℕ
his₆ = files.slot files.one (bytes "04") files.other ++ files.slot files.one (bytes "06") files.replaced ++ files.free

pub record Late : Type 0 where
  pub copy_is : copy_by started late ≡ his₆
  pub answers_are : answers_by started [] late ≡ counts3 0 1 0 ∷ counts3 0 2 0 ∷ counts3 0 1 1 ∷ []
  -- and the other's
  pub their_copy : copy_by started (apply (sent_with file₂ hgc₂) ∷ []) ≡ theirs ++ files.free ++ files.free
  pub their_answers : answers_by started [] (apply (sent_with file₂ hgc₂) ∷ []) ≡ counts3 0 1 0 ∷ []

-- ---- a register of two slots that is full and swept

-- an account that has ended; another one, for which there is no slot; and the ended one again
abbrev pub file₈ : Handed
file₈ = with 1 (files.file files.one (bytes "08") files.single files.ended)

abbrev pub file₉ : Handed
file₉ = with 1 (files.file files.one (bytes "09") files.single files.other)

abbrev pub file₁₀ : Handed
file₁₀ = with 1 (files.file files.one (bytes "10") files.single files.ended)

-- a list's record of the ended account: its end is the reception
abbrev pub ended_by : List ℕ → List ℕ
ended_by number = files.slot files.one number files.stored

-- after his list, after the other provider's, after the sweep and after his next list
abbrev pub begun : List ℕ
begun = ended_by (bytes "08") ++ files.free

abbrev pub packed : List ℕ
packed = ended_by (bytes "08") ++ theirs

abbrev pub emptied : List ℕ
emptied = theirs ++ files.free

abbrev pub refilled : List ℕ
refilled = theirs ++ ended_by (bytes "10")

abbrev pub hgc₈ : List ℕ
hgc₈ = files.confirmed files.one (bytes "08") files.single files.none (bytes "00") []

abbrev pub hgc₁₀ : List ℕ
hgc₁₀ = files.confirmed files.one (bytes "10") files.single files.none (bytes "00") []

abbrev pub went : ℕ → ℕ → Swept
went number removed = record { number = number; removed = removed }

-- what he does, and the other: both sweep, at the time at which the account ended and at one that is none
abbrev pub sweeps : List Entry
sweeps = sweep files.reception ∷ sweep files.unreal ∷ []

abbrev pub swept : List Entry
swept = apply (sent_with file₈ hgc₈) ∷ sweep files.reception ∷ sweep files.unreal ∷ apply (sent_with file₁₀ hgc₁₀) ∷ []

pub record Emptied : Type 0 where
  pub answer₈ : answer_to (empty 2) file₈ ≡ counts4 0 1 0 174
  pub after₈ : after (empty 2) file₈ ≡ begun
  pub hgc_is₈ : take 174 (buffer_after (empty 2) file₈) ≡ hgc₈
  pub answer₂ : answer_to begun file₂ ≡ counts4 0 1 0 174
  pub after₂ : after begun file₂ ≡ packed
  pub hgc_is₂ : take 174 (buffer_after begun file₂) ≡ hgc₂
  -- 33
  pub answer₉ : answer_to packed file₉ ≡ counts4 33 0 0 0
  pub after₉ : after packed file₉ ≡ packed
  -- the end is not later than the time: the record goes, the other closes up
  pub swept_answer : sweep_answer files.reception packed ≡ went 0 1
  pub swept_register : register_swept files.reception packed ≡ emptied
  -- 22
  pub unreal_answer : sweep_answer files.unreal emptied ≡ went 22 0
  pub unreal_register : register_swept files.unreal emptied ≡ emptied
  -- its slot is used by the next import
  pub answer₁₀ : answer_to emptied file₁₀ ≡ counts4 0 1 0 174
  pub after₁₀ : after emptied file₁₀ ≡ refilled
  pub hgc_is₁₀ : take 174 (buffer_after emptied file₁₀) ≡ hgc₁₀
  -- the copies of both
  pub his_copy : copy_by (empty 2) swept ≡ ended_by (bytes "10") ++ files.free
  pub his_answers : answers_by (empty 2) [] swept ≡ counts3 0 1 0 ∷ of_sweep (went 22 0) ∷ of_sweep (went 0 1) ∷ counts3 0 1 0 ∷ []
  pub their_copy : copy_by (empty 2) (apply (sent_with file₂ hgc₂) ∷ sweeps) ≡ emptied
  pub their_answers : answers_by (empty 2) [] (apply (sent_with file₂ hgc₂) ∷ sweeps) ≡ of_sweep (went 22 0) ∷ of_sweep (went 0 0) ∷ counts3 0 1 0 ∷ []

-- ---- two files of one provider, and summer time between them

-- the first at an hour ahead of UTC, the second at two
abbrev pub file₁₁ : Handed
file₁₁ = record { mode = 1; reception = files.winter; offset = pos 60; rows = files.rows; hgv = files.file files.one (bytes "11") files.single files.ended; hgc = files.buffer }

abbrev pub file₁₂ : Handed
file₁₂ = record { mode = 1; reception = files.summer; offset = pos 120; rows = files.rows; hgv = files.file files.one (bytes "12") files.single files.other; hgc = files.buffer }

-- the account ended with the first reception: ends and stamps are in UTC
abbrev ended_at : List ℕ → List ℕ
ended_at t = take 100 files.ended ++ t ++ drop 114 files.ended

abbrev pub register₁₁ : List ℕ
register₁₁ = files.slot_at files.winter files.one (bytes "11") (ended_at files.winter) ++ files.free

abbrev pub register₁₂ : List ℕ
register₁₂ = files.slot_at files.winter files.one (bytes "11") (ended_at files.winter) ++ files.slot_at files.summer files.one (bytes "12") files.other

-- the HGCs show local time
abbrev pub hgc₁₁ : List ℕ
hgc₁₁ = files.confirmed_at files.winter_shown files.one (bytes "11") files.single files.none (bytes "00") []

abbrev pub hgc₁₂ : List ℕ
hgc₁₂ = files.confirmed_at files.summer_shown files.one (bytes "12") files.single files.none (bytes "00") []

pub record Summer : Type 0 where
  pub answer₁₁ : answer_as true files.winter_shown file₁₁ (empty 2) ≡ counts4 0 1 0 174
  pub after₁₁ : register_as true files.winter_shown file₁₁ (empty 2) ≡ register₁₁
  pub hgc_is₁₁ : take 174 (hgc_as true files.winter_shown file₁₁ (empty 2)) ≡ hgc₁₁
  pub answer₁₂ : answer_as true files.summer_shown file₁₂ register₁₁ ≡ counts4 0 1 0 174
  pub after₁₂ : register_as true files.summer_shown file₁₂ register₁₁ ≡ register₁₂
  pub hgc_is₁₂ : take 174 (hgc_as true files.summer_shown file₁₂ register₁₁) ≡ hgc₁₂
  -- his copy, by the same offsets
  pub receipt₁₁ : receipt_holds file₁₁.hgv hgc₁₁ ≡ true
  pub receipt₁₂ : receipt_holds file₁₂.hgv hgc₁₂ ≡ true
  pub reception₁₁ : reception_of hgc₁₁ ≡ files.winter_shown
  pub reception₁₂ : reception_of hgc₁₂ ≡ files.summer_shown
  pub updated₁₁ : copy_as true files.winter (sent_with file₁₁ hgc₁₁) (empty 2) ≡ register₁₁
  pub updated₁₂ : copy_as true files.summer (sent_with file₁₂ hgc₁₂) register₁₁ ≡ register₁₂
  -- by the winter's offset the second would have another stamp
  pub mistaken₁₂ : eqs (copy_as true files.mistaken (sent 1 (pos 60) file₁₂.hgv hgc₁₂) register₁₁) register₁₂ ≡ false
  -- the moments by the clock
  pub winter_by : seconds_by files.winter_shown + 43200 ≡ seconds_by files.winter + 780 * 60
  pub summer_by : seconds_by files.summer_shown + 43200 ≡ seconds_by files.summer + 840 * 60
  pub mistaken_by : seconds_by files.summer_shown + 43200 ≡ seconds_by files.mistaken + 780 * 60
  pub winter_real : real_time files.winter ≡ true
  pub summer_real : real_time files.summer ≡ true
  pub winter_shown_lem : real_time files.winter_shown ≡ true
  pub summer_shown_lem : real_time files.summer_shown ≡ true
  pub mistaken_real : real_time files.mistaken ≡ true

-- ---- computed, by every definition that the contracts reach

pub computed : Single × (Seven × (Late × (Emptied × Summer)))
unfolding taken_next earlier bump distinct all run leading choose first flat onto free pad front_on front chop good bad pick eqs mem scan tally each some field listed filled_to filled number_after number decimal pan doubled addend luhn_sum luhn allowed plate nationality separated separator row_holds rows_hold sent_by row_begins row_fits known some_row_begins some_row_fits days_in real_time real_date tariff_holds class_holds emission_holds product_holds engine_holds valid_to_holds separator_holds fields_hold vehicle_holds limits meets meets_each missing allows weight_holds L10 end_of record_of slot_of stamp stamp_holds L1 L2 L3 L4 L5 L6 L7 nationality_blank L8 L9 rules_by line_rules record_holds starred slots_of marked used_form free_form records used_part in_order holds_pan place_of of_actor holds_foreign held_by_another count_of width_of lines_in length_holds body lines_of footer footer_form footer_holds framed frames_hold sequence previous_holds header_holds version_holds incremental_only receiver_holds count_holds zeros outcome head answer said answers foot confirmation own_rules verdict_rules verdict verdicts_of file_verdicts taken rejected stored_on stored stored_all others replaced_all is_full holdings used_after mode_holds full_with220001 addressed call_stops file_stops form_stops form_stop judged following thin unless_stopped refusal register_written confirmed_as stops_as number_as answer_as register_as hgc_as empty sift is_taken marks_from marks left answers_in behind_head answers_of length_form head_form answer_form form_holds names_hold outcome_holds reason_holds texts_of copies_of marks_of taken_by same_texts copies_hold counts_hold line_holds taken_hold says_hold lines_hold receipt_holds stop_counts success_counts own_holds copy_stops following_as updates.number_as updates.answer_as copy_as count ended going staying sweep_stops sweep_number sweep_answer swept_bytes register_swept copy_by answers_by seconds_by days_by sum
computed = (record { good_answer = refl; good_register = refl; empty_answer = refl; empty_hgc = refl; bad_answer = refl; bad_hgc_lem = refl; different = refl; first_register = refl; both_register = refl; both_different = refl; ended_register = refl; ended_hgc = refl }, (record { answer₁ = refl; after₁ = refl; hgc_is₁ = refl; answer₂ = refl; after₂ = refl; hgc_is₂ = refl; answer₃ = refl; after₃ = refl; answer₄ = refl; after₄ = refl; hgc_is₄ = refl; answer₅ = refl; after₅ = refl; answer₆ = refl; after₆ = refl; hgc_is₆ = refl; answer₇ = refl; after₇ = refl }, (record { copy_is = refl; answers_are = refl; their_copy = refl; their_answers = refl }, (record { answer₈ = refl; after₈ = refl; hgc_is₈ = refl; answer₂ = refl; after₂ = refl; hgc_is₂ = refl; answer₉ = refl; after₉ = refl; swept_answer = refl; swept_register = refl; unreal_answer = refl; unreal_register = refl; answer₁₀ = refl; after₁₀ = refl; hgc_is₁₀ = refl; his_copy = refl; his_answers = refl; their_copy = refl; their_answers = refl }, record { answer₁₁ = refl; after₁₁ = refl; hgc_is₁₁ = refl; answer₁₂ = refl; after₁₂ = refl; hgc_is₁₂ = refl; receipt₁₁ = refl; receipt₁₂ = refl; reception₁₁ = refl; reception₁₂ = refl; updated₁₁ = refl; updated₁₂ = refl; mistaken₁₂ = refl; winter_by = refl; summer_by = refl; mistaken_by = refl; winter_real = refl; summer_real = refl; winter_shown_lem = refl; summer_shown_lem = refl; mistaken_real = refl }))))
