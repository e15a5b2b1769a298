-- Request 7: which file touched this account? Its sentences, and under each the theorem that says so, of any outcome that the contracts
-- admit. Assumes nothing.
use Rattle.std.specs.Prelude.{◌≡◌, true, false, List, map, ℕ, length}
use Rattle.theory.specs.Same.{mem}
use Rattle.theory.specs.Each.{Each}
use Rattle.theory.specs.Pick.{good, pick}
use Rattle.columns.specs.Columns.{actor, pan_of}
use Rattle.sizes.specs.Sizes.{slot_length}
use Rattle.stamps.specs.Stamp.{stamp_in, Carries, stamp_holds}
use Rattle.header.specs.Header.{sender, list_sequence}
use Rattle.hgv.specs.Layout.{lines_of}
use Rattle.slots.specs.Slots.{records}
use Rattle.register.specs.Register.{in_order}
use Rattle.lookups.specs.Promises.{ByPan, ByPlate}
use Rattle.imports.specs.Imported.{Imported}
use Rattle.imports.specs.Handed.{Handed}
use Rattle.importer.specs.Promises.{Import}
use Rattle.offsets.specs.Offset.{utc}
use Rattle.answers.specs.Layout.{list_of, reception_of}
use Rattle.receipts.specs.Receipt.{taken_by}
use Rattle.provider.specs.Counted.{Counted}
use Rattle.updating.specs.Sent.{Sent}
use Rattle.updating.specs.Promises.{Update}
use Rattle.demands.specs.Verdicts.{Verdicts}
use Rattle.demands.specs.laws.Stamps as laws

-- "Form 23 asks the stamp to be a list sequence of the record's actor and a real time": in a register in order each record has such a
-- stamp
pub each_stamped : (b : List ℕ) → in_order b ≡ true → Each (λ x. stamp_holds (actor x) (stamp_in x) ≡ true) (records b)
each_stamped = laws.each_stamped

-- "Lookups answer all 168 bytes": whatever their contracts admit with the number 0 has as many bytes as a slot
module _ (b part : List ℕ) (number : ℕ) where
  pub pan_long : (key : List ℕ) → ByPan b key part number → number ≡ 0 → length part ≡ slot_length
  pan_long = laws.pan_long b part number

  pub plate_long : (p n t : List ℕ) → ByPlate b p n t part number → number ≡ 0 → length part ≡ slot_length
  plate_long = laws.plate_long b part number

-- Of what was handed over the import answered r with the number 0, and left the register b and the buffer g; vs are the verdicts of the
-- file's lines, beside the register as it was
module _ (f : Handed) (register : List ℕ) (r : Imported) (b g : List ℕ) (o : Import f register r b g) (z : r.number ≡ 0)
    (vs : List ℕ) (v : Verdicts f.rows (sender f.hgv) (records register) (lines_of f.hgv) vs) where
  -- the PANs that a taken line names
  abbrev named : List (List ℕ)
  named = map pan_of (pick good vs (lines_of f.hgv))

  -- "Every taken line stamps its slot": every record whose PAN a taken line names carries the file's list and its reception,
  pub touched : Each (λ x. mem (pan_of x) named ≡ true → Carries (list_sequence f.hgv) f.reception x) (records b)
  touched = laws.touched f register r b g o z vs v

  -- and every other record the stamp that it had: byte for byte it is a record that was held
  pub untouched : Each (λ x. mem (pan_of x) named ≡ false → mem x (records register) ≡ true) (records b)
  untouched = laws.untouched f register r b g o z vs v

-- "The provider's copy has the same slots": an update that answers u with the number 0 leaves a copy c in which every record whose PAN a
-- taken line names carries the HGC's list and its reception in UTC, and every other record the stamp that it had. That the stamps are those
-- of our records, whatever was imported, is demand 3 itself, which speaks of the slots' bytes.
module _ (s : Sent) (copy : List ℕ) (u : Counted) (c : List ℕ) (o : Update s copy u c) (z : u.number ≡ 0) where
  abbrev confirmed : List (List ℕ)
  confirmed = map pan_of (taken_by s.hgv s.hgc)

  pub update_touched : Each (λ x. mem (pan_of x) confirmed ≡ true → Carries (list_of s.hgc) (utc s.offset (reception_of s.hgc)) x) (records c)
  update_touched = laws.update_touched s copy u c o z

  pub update_untouched : Each (λ x. mem (pan_of x) confirmed ≡ false → mem x (records copy) ≡ true) (records c)
  update_untouched = laws.update_untouched s copy u c o z
