-- What the offset shows in an import and an update, and what it does not. Assumes nothing.
use Rattle.std.specs.Prelude.{◌≡◌, List, ℕ, ℤ, pos, ◌+ℤ◌, ◌*ℤ◌, length, take}
use Rattle.std.proofs.Math.Path.{refl, sym}
use Rattle.std.proofs.Common.{◌∙◌, arith, length-append}
use Rattle.std.proofs.Math.Bool.{true}
use Rattle.theory.specs.Join.{flat}
use Rattle.times.specs.Time.{real_time}
use Rattle.times.specs.Seconds.{seconds}
use Rattle.times.specs.laws.Moment.{real_length}
use Rattle.hgc.specs.Confirmation.{head, confirmation}
use Rattle.offsets.specs.Offset.{local, utc, reception_holds}
use Rattle.offsets.specs.laws.Shift.{local_real, local_minutes, local_back}
use Rattle.answers.specs.Layout.{reception_of}
use Rattle.receipts.specs.Receipt.{receipt_holds}
use Rattle.imports.specs.Imported.{Imported}
use Rattle.imports.specs.Handed.{Handed, at}
use Rattle.imports.specs.Import.{judged, confirmed, following, register_written}
use Rattle.imports.specs.Shown.{confirmed_as, stops_as, number_as, answer_as, register_as, hgc_as}
use Rattle.importer.specs.Promises.{Import}
use Rattle.imports.specs.Promises.{ImportJudged}
use Rattle.imports.specs.laws.Numbers.{Formed, accepted_clear}
use Rattle.imports.proofs.Room.{accepted_passed}
use Rattle.imports.proofs.Shown.{shown_as, zero_as}
use Rattle.provider.specs.Counted.{Counted}
use Rattle.updating.specs.Sent.{Sent}
use Rattle.updating.specs.Shown as updates
use Rattle.updating.specs.Promises.{Update}
use Rattle.updating.proofs.Shown as update_laws
use Rattle.demands.specs.laws.Imports.{number_is}
use Rattle.demands.specs.laws.ReadBack.{reception_read}
use Rattle.demands.specs.laws.Sound.{sound_today}
use Rattle.demands.specs.laws.Weighed.{hgc_cut}

-- ---- an accepted import

module _ (f : Handed) (register : List ℕ) (r : Imported) (b g : List ℕ) (o : Import f register r b g) (z : r.number ≡ 0) where
  c : Formed f register
  c = accepted_clear f register (sym (number_is f register r b g o) ∙ z)

  -- what the HGC shows
  abbrev told : List ℕ
  told = reception_of (take r.length g)

  told_is : told ≡ local f.offset f.reception
  unfolding confirmed
  told_is =
      rw (hgc_cut f register r b g o z)
      (reception_read f register (judged register f.rows f.hgv) (sound_today f register c (accepted_passed f register (sym (number_is f register r b g o) ∙ z)).slots))

  pub shows_local : (real_time told ≡ true) × (pos (seconds told) ≡ pos (seconds f.reception) +ℤ f.offset *ℤ pos 60)
  shows_local = rw told_is (local_real f.offset f.reception c.received, local_minutes f.offset f.reception c.received)

  pub utc_again : utc f.offset told ≡ f.reception
  utc_again = rw told_is (local_back f.offset f.reception c.received)

-- ---- two imports that differ in the offset alone

-- what is shown is as long
length_shown : (t t' h vs : List ℕ) → length t ≡ length t' → length (confirmation t h vs) ≡ length (confirmation t' h vs)
unfolding confirmation head flat
length_shown t t' h vs e = simp length-append (omega (arith, e))

module _ (t t' : List ℕ) (e : length t ≡ length t') (f : Handed) (register : List ℕ) where
  same_length : length (confirmed_as true t f register) ≡ length (confirmed_as true t' f register)
  unfolding confirmed_as
  same_length = length_shown t t' f.hgv _ e

  pub same_number : number_as true t f register ≡ number_as true t' f register
  unfolding number_as stops_as
  same_number = rw same_length

  same_answer : answer_as true t f register ≡ answer_as true t' f register
  unfolding answer_as
  same_answer = rw (same_number, same_length)

  same_register : register_as true t f register ≡ register_as true t' f register
  unfolding register_as
  same_register = rw same_number

module _ (o o' : ℤ) (f : Handed) (register : List ℕ) (h : reception_holds o f.reception ≡ true) (h' : reception_holds o' f.reception ≡ true)
    (r r' : Imported) (b b' g g' : List ℕ) (i : Import (at o f) register r b g) (i' : Import (at o' f) register r' b' g') where
  as_long : length (local o f.reception) ≡ length (local o' f.reception)
  as_long =
      real_length (local o f.reception) (local_real o f.reception h)
      ∙ sym (real_length (local o' f.reception) (local_real o' f.reception h'))

  pub register_same : (r ≡ r') × (b ≡ b')
  unfolding ImportJudged answer_as register_as number_as stops_as confirmed_as following register_written
  register_same =
      let a = shown_as (at o f) register true (local o f.reception) h refl in
      let a' = shown_as (at o' f) register true (local o' f.reception) h' refl in (
        i.0 ∙ a.answer ∙ same_answer _ _ as_long (at o f) register ∙ sym (i'.0 ∙ a'.answer),
        i.1.0 ∙ a.after ∙ same_register _ _ as_long (at o f) register ∙ sym (i'.1.0 ∙ a'.after),
      )

-- ---- with no offset

pub import_before : (f : Handed) (register : List ℕ) (r : Imported) (b g : List ℕ) → Import f register r b g → f.offset ≡ pos 0
    → (r ≡ answer_as (real_time f.reception) f.reception f register)
    × ((b ≡ register_as (real_time f.reception) f.reception f register) × (g ≡ hgc_as (real_time f.reception) f.reception f register))
unfolding ImportJudged
import_before f register r b g i e = let a = zero_as f register e in (i.0 ∙ a.answer, (i.1.0 ∙ a.after, i.1.1 ∙ a.buffer))

pub update_before : (s : Sent) (copy : List ℕ) (u : Counted) (c : List ℕ) → Update s copy u c → s.offset ≡ pos 0
    → (u ≡ updates.answer_as (receipt_holds s.hgv s.hgc) (reception_of s.hgc) s copy)
    × (c ≡ updates.copy_as (receipt_holds s.hgv s.hgc) (reception_of s.hgc) s copy)
unfolding Update
update_before s copy u c i e = let a = update_laws.zero_as s copy e in (i.0 ∙ a.answer, i.1 ∙ a.after)
