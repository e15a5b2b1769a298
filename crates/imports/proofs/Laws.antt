-- What the functions of this crate cite. Assumes nothing.
use mathlib.Core.Path.{◌≡◌, sym, ◌∙◌}
use mathlib.Core.Bool.{Bool, true}
use mathlib.Core.List.{List, ◌++◌}
use Prim.Native.Nat.{ℕ, ◌-◌, ◌≤◌}
use native.Mathlib.Omega.{arith}
use lib.Dec.{ltb}
use lib.ListN.{length, drop}
use Rattle.theory.specs.First.{first}
use Rattle.theory.specs.Each.{Each}
use Rattle.theory.specs.Pick.{good, bad}
use Rattle.theory.specs.Tally.{tally}
use Rattle.theory.specs.laws.Tally.{tallies}
use Rattle.header.specs.Header.{sender, list_sequence}
use Rattle.header.specs.laws.Header.{header_list}
use Rattle.times.specs.laws.Moment.{real_length}
use Rattle.sizes.specs.Sizes.{line_most, lines_most, time_length}
use Rattle.sequences.specs.Sequence.{list_length}
use Rattle.sequences.specs.laws.Length.{sequence_length}
use Rattle.stamps.specs.Stamp.{stamp}
use Rattle.records.specs.Slot.{slot_of, storable}
use Rattle.taken.specs.Taken.{taken_in}
use Rattle.texts.specs.declared.parts.Parts.{Parts}
use Rattle.hgv.specs.Layout.{width_of, lines_in, length_holds, body}
use Rattle.hgv.specs.Promises.{Lines}
use Rattle.slots.specs.Slots.{records, slots_in}
use Rattle.register.specs.Register.{in_order}
use Rattle.upkeep.specs.Holds.{Holds}
use Rattle.verdicts.specs.Verdict.{taken}
use Rattle.hgc.specs.Confirmation.{confirmation, confirmation_length}
use Rattle.holdings.specs.Holdings.{holdings}
use Rattle.holdings.specs.Room.{used_after, used_by}
use Rattle.holdings.specs.laws.Room.{used_by_lem}
use Rattle.thinness.specs.Thin.{thin}
use Rattle.applying.specs.Fit.{Fit, Sought}
use Rattle.hgv.specs.laws.Layout.{is_width}
use Rattle.times.specs.Seconds.{is_real}
use Rattle.offsets.specs.Offset.{local_time, reception_holds}
use Rattle.offsets.specs.Ahead.{offset_of}
use Rattle.offsets.specs.laws.Shift.{received}
use Rattle.imports.specs.Handed.{Handed}
use Rattle.imports.specs.Import.{judged, following, shown, confirmed, judged_stops, timed, success, register_written, hgc_written}
use Rattle.imports.specs.laws.Numbers.{Formed, formed_received, Passed, judged_passed}
use Rattle.imports.specs.laws.Accepted.{Accepted, verdict_each, verdicts_most, lines_are, lines_storable, lines_apart, lines_free, confirmed_length}
use Rattle.imports.proofs.Room.{lines_made, following_used}

-- vs are the verdicts, and r of them reject their line
module _ (f : Handed) (register vs : List ℕ) (r : ℕ)
    (c : Formed f register) (v : vs ≡ judged register f.rows f.hgv) (e : r ≡ tally bad vs) where
  pub rejected_most : r ≤ lines_most
  rejected_most = omega (arith, e, tallies vs, verdicts_most f register c vs v)

  -- t is how many were taken
  pub taken_few : (t : ℕ) → t ≡ tally good vs → t ≤ lines_most
  taken_few t k = omega (arith, k, tallies vs, verdicts_most f register c vs v)

  -- 35: from is the sender, and b what was answered
  pub thin_is : (from : List ℕ) → from ≡ sender f.hgv → (t : ℕ) → t ≡ tally good vs → (b : Bool) → b ≡ thin f.mode from (records register) t
      → b ≡ thin f.mode (sender f.hgv) (records register) (tally good (judged register f.rows f.hgv))
  thin_is from ef t et b eb = eb ∙ rw (ef, et, v)

  -- 33: from is the sender, `found` tells of the lines, and k slots would be used
  pub slots_are : (from : List ℕ) → from ≡ sender f.hgv → (found : List ℕ) → Sought f.mode (records register) (width_of f.hgv) (body f.hgv) vs found
      → (k : ℕ) → k ≡ used_by f.mode from (records register) vs found → ltb (slots_in register) k ≡ ltb (slots_in register) (length (following f register))
  slots_are from ef found s k ek =
      let u : k ≡ used_after f.mode (sender f.hgv) (records register) (taken_in (width_of f.hgv) vs (body f.hgv)) =
      ek ∙ rw ef (used_by_lem f.mode (sender f.hgv) (records register) (width_of f.hgv) (body f.hgv) vs found s.many s.places) in
      rw (u, lines_are f register c vs v, following_used f register c)

  -- 34: w is the width, and m the confirmation's length
  pub buffer_is : (w : ℕ) → w ≡ width_of f.hgv → (m : ℕ) → m ≡ confirmation_length w r → ltb (length f.hgc) m ≡ ltb (length f.hgc) (length (confirmed f register))
  buffer_is w ew m em = rw (em, ew, ← confirmed_length f register c vs v r e)

-- ---- what is confirmed

-- the local time can be written, where the offset is so many minutes ahead
pub local_fits : (ahead : ℕ) (t : List ℕ) → reception_holds (offset_of ahead) t ≡ true → is_real (local_time (offset_of ahead) t) ≡ true
local_fits ahead t h = (received (offset_of ahead) t h).shown

-- ---- what is carried out

module _ (f : Handed) (register vs : List ℕ) (t r : ℕ) (found : List ℕ) (a : Accepted f register vs t r found) where
  c : Formed f register
  c = a.clear

  -- from and list are sender and list sequence
  module _ (from list : List ℕ) (ef : from ≡ sender f.hgv) (es : list ≡ list_sequence f.hgv) (lines : Parts) (el : Lines f.hgv lines) where
    lines_taken : taken_in lines.width vs lines.block.now ≡ taken (judged register f.rows f.hgv) f.hgv
    lines_taken = rw (el.0, el.1) (lines_are f register c vs a.verdicts)

    pub apply_fits : record {
      lined : length vs ≤ lines.count;
      ordered : in_order register ≡ true;
      listed : length list ≡ list_length;
      received : length f.reception ≡ time_length;
      kept : Each (λ l. storable (stamp list f.reception) l ≡ true) (taken_in lines.width vs lines.block.now);
      fit : Fit f.mode from (slot_of (stamp list f.reception)) (slots_in register) (records register) (taken_in lines.width vs lines.block.now);
      sought : Sought f.mode (records register) lines.width lines.block.now vs found;
    }
    unfolding following
    apply_fits =
        record {
          lined = omega (arith, el.2, verdict_each f register c vs a.verdicts);
          ordered = c.ordered;
          listed = rw es (sequence_length (sender f.hgv) (list_sequence f.hgv) (header_list f.hgv c.headed));
          received = real_length f.reception (formed_received f register c);
          kept = rw (lines_taken, es) (lines_storable f register c);
          fit =
              rw (lines_taken, ef, es)
              record {
                made = lines_made f register c;
                apart = lines_apart f register c;
                free = lines_free f register c;
                room = a.slots;
              };
          sought = rw (el.0, el.1) a.sought;
        }

    pub applied : (b : List ℕ) → Holds (slots_in register) (holdings f.mode from (slot_of (stamp list f.reception)) (records register) (taken_in lines.width vs lines.block.now)) b → b ≡ register_written f register
    unfolding register_written following
    applied b k = k.bytes ∙ rw (lines_taken, ef, es)

  pub confirm_fits : record {
    timed : timed f ≡ true;
    sized : length_holds f.hgv ≡ true;
    judged : length vs ≡ lines_in f.hgv;
    counted : t ≡ tally good vs;
    answered : r ≡ tally bad vs;
    room : confirmation_length (width_of f.hgv) r ≤ length f.hgc;
  }
  confirm_fits =
      record {
        timed = c.received;
        sized = c.sized;
        judged = verdict_each f register c vs a.verdicts;
        counted = a.taken_are;
        answered = a.rejected_are;
        room = rw (← confirmed_length f register c vs a.verdicts r a.rejected_are) a.buffer;
      }

  pub hgc_is : (g : List ℕ) → g ≡ confirmation (shown f) f.hgv vs ++ drop (length (confirmation (shown f) f.hgv vs)) f.hgc → g ≡ hgc_written f register
  unfolding hgc_written confirmed
  hgc_is g e = e ∙ rw a.verdicts

  pub length_fits : (w : ℕ) → w ≡ width_of f.hgv → (w ≤ line_most) × (r ≤ lines_most)
  length_fits w e = (rw e (is_width f.hgv).1, rejected_most f register vs r c a.verdicts a.rejected_are)

  pub success_is : (w : ℕ) → w ≡ width_of f.hgv → (m : ℕ) → m ≡ confirmation_length w r → record { number = 0; taken = t; rejected = r; length = m } ≡ success f register
  unfolding success
  success_is w ew m e =
      rw (e, ew, ← confirmed_length f register c vs a.verdicts r a.rejected_are, a.taken_are, a.rejected_are, a.verdicts)

-- ---- from the verdicts to the answer

-- t of the verdicts take their line
pub rest_rejected : (vs : List ℕ) (t : ℕ) → t ≡ tally good vs → length vs - t ≡ tally bad vs
rest_rejected vs t e = omega (arith, tallies vs)

pub taken_most : (vs : List ℕ) (t : ℕ) → t ≡ tally good vs → t ≤ length vs
taken_most vs t e = omega (arith, tallies vs)

module _ (f : Handed) (register vs : List ℕ) (c : Formed f register) (v : vs ≡ judged register f.rows f.hgv) where
  pub accepts : (found : List ℕ) → Sought f.mode (records register) (width_of f.hgv) (body f.hgv) vs found
      → (t : ℕ) → t ≡ tally good vs → (s : ℕ) → s ≡ first (judged_stops f register) → s ≡ 0 → Accepted f register vs t (length vs - t) found
  accepts found g t e s k y =
      let passed : Passed f register = judged_passed f register (sym k ∙ y) in
      record { clear = c; verdicts = v; taken_are = e; rejected_are = rest_rejected vs t e; slots = passed.slots; buffer = passed.buffer; sought = g }
