-- What the taken lines' slots are, and how many records follow: a full list that is too thin has room for them, so 35 and 33 never hold
-- together, and nobody leans on their order. At 0 none of 35, 33 and 34 holds. Assumes nothing.
use Rattle.std.specs.Prelude.{◌≡◌, true, false, List, ℕ, ltb, length}
use Rattle.std.proofs.Common.{arith, le-ltb}
use Rattle.theory.specs.Each.{Each}
use Rattle.theory.specs.laws.Each.{each_map}
use Rattle.theory.specs.Pick.{good}
use Rattle.theory.specs.Tally.{tally}
use Rattle.header.specs.Header.{sender}
use Rattle.records.specs.Slot.{slot_of}
use Rattle.slots.specs.Slots.{slots_in, records}
use Rattle.slots.specs.laws.Slots.{used_most}
use Rattle.verdicts.specs.Verdict.{taken}
use Rattle.thinness.specs.Thin.{thin}
use Rattle.thinness.specs.laws.Thin.{thin_only}
use Rattle.upkeep.specs.Makes.{Makes}
use Rattle.upkeep.specs.laws.Makes.{each_makes}
use Rattle.holdings.specs.Room.{used_after}
use Rattle.holdings.specs.laws.Room.{used_full}
use Rattle.holdings.proofs.Room.{used_after_lem}
use Rattle.imports.specs.Handed.{Handed}
use Rattle.imports.specs.Import.{judged, file_stamp, following, import_number}
use Rattle.imports.specs.laws.Numbers.{Formed, Passed, judged_passed, neither}
use Rattle.imports.specs.laws.Accepted.{lines_storable, lines_apart}
use Rattle.imports.specs.laws.Thin.{length_taken}

module _ (f : Handed) (register : List ℕ) where
  pub accepted_passed : import_number f register ≡ 0 → Passed f register
  accepted_passed e = judged_passed f register (neither f register e).1

module _ (f : Handed) (register : List ℕ) (c : Formed f register) where
  abbrev vs : List ℕ
  vs = judged register f.rows f.hgv

  abbrev ls : List (List ℕ)
  ls = taken vs f.hgv

  -- the taken lines' slots have their PANs and actors
  pub lines_made : Each (Makes (slot_of (file_stamp f))) ls
  lines_made = each_makes (file_stamp f) (lines_storable f register c)

  -- the number of records that follow, as it is reckoned
  pub following_used : used_after f.mode (sender f.hgv) (records register) ls ≡ length (following f register)
  unfolding following
  following_used =
      used_after_lem (slot_of (file_stamp f)) f.mode (sender f.hgv) (records register) ls (each_map (λ l m. m.pan) lines_made) (lines_apart f register c)

  pub never_both : thin f.mode (sender f.hgv) (records register) (tally good vs) ≡ true → ltb (slots_in register) (length (following f register)) ≡ false
  never_both e =
      let (m, l) = thin_only f.mode (sender f.hgv) (records register) (tally good vs) e in
      le-ltb (slots_in register) (length (following f register))
      (omega (
        arith,
        l,
        following_used,
        used_full f.mode (sender f.hgv) (records register) (taken vs f.hgv) m,
        length_taken f register c,
        used_most register,
      ))
