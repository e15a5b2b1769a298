-- What a file has whose form is right, and whose lines are judged: enough to reckon what follows, and to apply it.
-- Assumes nothing.
use Rattle.std.specs.Prelude.{◌≡◌, true, false, List, map, ℕ, ◌*◌, ◌≤◌}
use Rattle.std.proofs.Math.Path.{ap}
use Rattle.std.proofs.Common.{◌∙◌, arith}
use Rattle.std.proofs.Math.ListN.{length}
use Rattle.theory.specs.Each.{Each}
use Rattle.theory.specs.laws.Each.{each_map}
use Rattle.theory.specs.Pick.{good, bad}
use Rattle.theory.specs.Tally.{tally}
use Rattle.theory.specs.Distinct.{distinct}
use Rattle.times.specs.laws.Moment.{real_length}
use Rattle.columns.specs.Columns.{pan_of}
use Rattle.lines.specs.Rules.{record_holds, L2}
use Rattle.lines.specs.Faultless.{Faultless}
use Rattle.lines.specs.laws.Faultless.{faultless_record}
use Rattle.records.specs.Slot.{storable}
use Rattle.records.specs.laws.Stamped.{each_storable}
use Rattle.sizes.specs.Sizes.{lines_most}
use Rattle.hgv.specs.Layout.{width_of, lines_in, body, lines_of}
use Rattle.hgv.specs.laws.Layout.{lines_room, lines_most_lem}
use Rattle.header.specs.Header.{sender, list_sequence}
use Rattle.header.specs.laws.Header.{header_sender, header_list}
use Rattle.slots.specs.Slots.{records, slots_in}
use Rattle.slots.specs.Search.{of_actor, held_by_another}
use Rattle.verdicts.specs.Verdict.{taken}
use Rattle.verdicts.specs.laws.Verdict.{length_verdicts, each_faultless, each_free, taken_apart}
use Rattle.hgc.specs.Confirmation.{confirmation_length}
use Rattle.hgc.specs.laws.Confirmation.{length_confirmation}
use Rattle.taken.specs.Taken.{taken_in}
use Rattle.applying.specs.Fit.{Sought}
use Rattle.imports.specs.Handed.{Handed}
use Rattle.imports.specs.Import.{judged, file_stamp, following, shown, confirmed}
use Rattle.imports.specs.laws.Numbers.{Formed, formed_received, formed_shown}

module _ (f : Handed) (register : List ℕ) (c : Formed f register) where
  -- ---- the taken lines

  abbrev ls : List (List ℕ)
  ls = taken (judged register f.rows f.hgv) f.hgv

  faultless : Each (Faultless f.rows (sender f.hgv)) ls
  unfolding judged
  faultless = each_faultless f.rows (records register) f.hgv

  -- they meet the rules of a record, and are the sender's
  pub lines_hold_lem : Each (λ l. record_holds l ≡ true) ls
  lines_hold_lem = each_map (λ l k. faultless_record f.rows (sender f.hgv) l k (header_sender f.hgv c.headed)) faultless

  pub lines_his : Each (λ l. of_actor (sender f.hgv) l ≡ true) ls
  unfolding of_actor L2
  lines_his = each_map (λ l k. k.l2) faultless

  -- no two have one PAN, and no other actor holds it
  pub lines_apart : distinct (map pan_of ls) ≡ true
  unfolding judged
  lines_apart = taken_apart f.rows (records register) f.hgv

  pub lines_free : Each (λ l. held_by_another (pan_of l) (sender f.hgv) (records register) ≡ false) ls
  unfolding judged
  lines_free = each_free f.rows (records register) f.hgv

  -- so they can be stored under the file's stamp
  pub lines_storable : Each (λ l. storable (file_stamp f) l ≡ true) ls
  lines_storable = each_storable (sender f.hgv) (list_sequence f.hgv) f.reception (header_list f.hgv c.headed) (formed_received f register c) lines_his lines_hold_lem

  -- ---- as the code has them: vs are the verdicts

  module _ (vs : List ℕ) (e : vs ≡ judged register f.rows f.hgv) where
    pub verdict_each : length vs ≡ lines_in f.hgv
    unfolding judged
    verdict_each = ap length e ∙ length_verdicts f.rows (records register) f.hgv

    pub lines_there : length vs * width_of f.hgv ≤ length (body f.hgv)
    lines_there = rw verdict_each (lines_room f.hgv)

    pub verdicts_most : length vs ≤ lines_most
    verdicts_most = omega (arith, verdict_each, lines_most_lem f.hgv c.sized)

    -- the lines that the body's parts are
    pub lines_are : taken_in (width_of f.hgv) vs (body f.hgv) ≡ ls
    unfolding taken lines_of
    lines_are = rw (verdict_each, e)

    pub confirmed_length : (r : ℕ) → r ≡ tally bad vs → length (confirmed f register) ≡ confirmation_length (width_of f.hgv) r
    unfolding confirmed
    confirmed_length r k = rw (← e, k) (length_confirmation (shown f) f.hgv vs (real_length (shown f) (formed_shown f register c)) c.sized verdict_each)

-- the file's form is right, its lines are judged, and there is room for what follows
pub record Accepted (f : Handed) (register vs : List ℕ) (t r : ℕ) (found : List ℕ) : Type 0 where
  pub clear : Formed f register
  pub verdicts : vs ≡ judged register f.rows f.hgv
  pub taken_are : t ≡ tally good vs
  pub rejected_are : r ≡ tally bad vs
  pub slots : length (following f register) ≤ slots_in register
  pub buffer : length (confirmed f register) ≤ length f.hgc
  pub sought : Sought f.mode (records register) (width_of f.hgv) (body f.hgv) vs found
