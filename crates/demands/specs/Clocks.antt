-- Request 13: header times are local. Each sentence of it, and under it the theorems that say so, of any outcome that the contracts admit.
-- That the import refuses by 22 and the update by 52, and leave everything then, stands with the other refusals in Demand1; that ends and
-- stamps are in UTC on both sides is Demand2 and Stamps; that the provider needs the offset of each entry, and nothing else, is
-- Demand3 itself. Assumes nothing.
use Rattle.std.specs.Prelude.{◌≡◌, true, List, ℕ, ◌<◌, ltb, ℤ, pos, ◌+ℤ◌, ◌*ℤ◌, take}
use Rattle.calendar.specs.Calendar.{all_seconds}
use Rattle.times.specs.Time.{real_time}
use Rattle.times.specs.Seconds.{seconds, time_at}
use Rattle.times.specs.Order.{earlier}
use Rattle.times.specs.laws.Order.{byte_order}
use Rattle.times.specs.laws.Back.{at_real, at_seconds, at_its_seconds}
use Rattle.offsets.specs.Offset.{local, utc, reception_holds, utc_holds}
use Rattle.offsets.specs.laws.Shift.{local_back, local_utc}
use Rattle.answers.specs.Layout.{reception_of}
use Rattle.receipts.specs.Receipt.{receipt_holds}
use Rattle.imports.specs.Imported.{Imported}
use Rattle.imports.specs.Handed.{Handed, at}
use Rattle.imports.specs.Shown.{answer_as, register_as, hgc_as}
use Rattle.importer.specs.Promises.{Import}
use Rattle.provider.specs.Counted.{Counted}
use Rattle.updating.specs.Sent.{Sent}
use Rattle.updating.specs.Shown as updates
use Rattle.updating.specs.Promises.{Update}
use Rattle.demands.specs.laws.Clocks as laws

-- "The time check shall answer the seconds since 00010101000000 besides yes or no": of real times the one whose bytes come first has fewer
-- seconds, and only that one;
pub seconds_rise : (a b : List ℕ) → real_time a ≡ true → real_time b ≡ true → earlier a b ≡ ltb (seconds a) (seconds b)
seconds_rise = byte_order

-- every number of them up to the last has a time, and no real time has another
pub second_has_time : (n : ℕ) → n < all_seconds → (real_time (time_at n) ≡ true) × (seconds (time_at n) ≡ n)
second_has_time n l = (at_real n l, at_seconds n l)

pub time_at_its_seconds : (t : List ℕ) → real_time t ≡ true → time_at (seconds t) ≡ t
time_at_its_seconds = at_its_seconds

-- "the HGC's reception shows local time", of an accepted import
module _ (f : Handed) (register : List ℕ) (r : Imported) (b g : List ℕ) (o : Import f register r b g) (z : r.number ≡ 0) where
  abbrev told : List ℕ
  told = reception_of (take r.length g)

  -- it is a real time, and local minus UTC is the offset, in minutes
  pub shows_local : (real_time told ≡ true) × (pos (seconds told) ≡ pos (seconds f.reception) +ℤ f.offset *ℤ pos 60)
  shows_local = laws.shows_local f register r b g o z

  -- so who has the offset has UTC
  pub utc_again : utc f.offset told ≡ f.reception
  utc_again = laws.utc_again f register r b g o z

-- there and back, wherever 22 is not given, and then 52 is not given either
pub there_and_back : (o : ℤ) (t : List ℕ) → reception_holds o t ≡ true → (utc o (local o t) ≡ t) × (utc_holds o (local o t) ≡ true)
there_and_back o t h = (local_back o t h, local_utc o t h)

-- "Ends and stamps are reckoned in UTC": two imports that differ in the offset alone, neither refused by it, answer the same and leave the
-- same register
pub register_same : (o o' : ℤ) (f : Handed) (register : List ℕ) → reception_holds o f.reception ≡ true → reception_holds o' f.reception ≡ true
    → (r r' : Imported) (b b' g g' : List ℕ) → Import (at o f) register r b g → Import (at o' f) register r' b' g' → (r ≡ r') × (b ≡ b')
register_same = laws.register_same

-- With no offset every byte is as before: 22 asks that the reception is real, and the reception is shown; 52 asks that the HGC holds, and its
-- reception is stamped. What stands behind `As` speaks of no offset
pub import_before : (f : Handed) (register : List ℕ) (r : Imported) (b g : List ℕ) → Import f register r b g → f.offset ≡ pos 0
    → (r ≡ answer_as (real_time f.reception) f.reception f register)
    × ((b ≡ register_as (real_time f.reception) f.reception f register) × (g ≡ hgc_as (real_time f.reception) f.reception f register))
import_before = laws.import_before

pub update_before : (s : Sent) (copy : List ℕ) (u : Counted) (c : List ℕ) → Update s copy u c → s.offset ≡ pos 0
    → (u ≡ updates.answer_as (receipt_holds s.hgv s.hgc) (reception_of s.hgc) s copy)
    × (c ≡ updates.copy_as (receipt_holds s.hgv s.hgc) (reception_of s.hgc) s copy)
update_before = laws.update_before
