-- What the number answered says: at a stop the counts are zero and every lent byte stays (T4); at 0 nothing stops the
-- import, and what follows is written. Assumes nothing.
use Rattle.std.specs.Prelude.{◌≡◌, true, false, List, ℕ, ◌≤◌, length}
use Rattle.std.proofs.Math.Path.{refl, sym}
use borrow.Author.Tests.{ltb-false}
use Rattle.theory.specs.First.{None, first}
use Rattle.theory.specs.laws.First.{first_clear, numbered, fits_at, none_at}
use Rattle.theory.specs.laws.Stopped.{at_stop, at_success, by_first, by_second, by_neither}
use Rattle.theory.specs.Pick.{good}
use Rattle.theory.specs.Tally.{tally}
use Rattle.header.specs.Header.{sender}
use Rattle.times.specs.Time.{real_time}
use Rattle.offsets.specs.laws.Shift.{received, local_real}
use Rattle.slots.specs.Slots.{slots_in, records}
use Rattle.thinness.specs.Thin.{thin}
use Rattle.stops.specs.Stops.{call_stops, file_stops, form_stops, form_stop}
use Rattle.stops.specs.Clear.{Clear}
use Rattle.stops.specs.laws.Clear.{clear, clear_none}
use Rattle.imports.specs.Handed.{Handed}
use Rattle.imports.specs.Import.{judged, following, confirmed, judged_stops, shown, timed, stops, import_number, refusal, success, register_written, hgc_written, import_answer, register_after, hgc_after}

-- the file's form is right: none of 21 to 32
abbrev pub Formed : Handed → List ℕ → Type 0
Formed f register = Clear f.mode (timed f) register f.rows f.hgv

-- then the reception is a real time, and so is what the sender is shown
module _ (f : Handed) (register : List ℕ) (c : Formed f register) where
  pub formed_received : real_time f.reception ≡ true
  formed_received = (received f.offset f.reception c.received).real

  pub formed_shown : real_time (shown f) ≡ true
  formed_shown = local_real f.offset f.reception c.received

module _ (f : Handed) (register : List ℕ) where
  abbrev number : ℕ
  number = import_number f register

  -- every stop of form has a number
  forms : numbered (form_stops f.mode (timed f) register f.rows f.hgv) ≡ true
  unfolding form_stops call_stops file_stops numbered
  forms = refl

  pub number_form : (n : ℕ) → n ≡ form_stop f.mode (timed f) register f.rows f.hgv → (n ≡ 0 → ⊥) → n ≡ number
  unfolding import_number stops form_stop
  number_form = by_first (form_stops f.mode (timed f) register f.rows f.hgv) (judged_stops f register) forms

  pub number_judged : Formed f register → (n : ℕ) → n ≡ first (judged_stops f register) → n ≡ number
  unfolding import_number stops form_stop
  number_judged c = by_second (form_stops f.mode (timed f) register f.rows f.hgv) (judged_stops f register) forms (clear_none f.mode (timed f) register f.rows f.hgv c)

  -- ---- a stop

  module _ (n : ℕ) (e : n ≡ number) (k : n ≡ 0 → ⊥) where
    pub stop_answer : refusal n ≡ import_answer f register
    unfolding import_answer
    stop_answer = sym (rw (← e) (at_stop n _ (refusal n) k))

    pub stop_register : register ≡ register_after f register
    unfolding register_after
    stop_register = sym (rw (← e) (at_stop n _ register k))

    pub stop_hgc : f.hgc ≡ hgc_after f register
    unfolding hgc_after
    stop_hgc = sym (rw (← e) (at_stop n _ f.hgc k))

  -- ---- success

  module _ (e : number ≡ 0) where
    pub done_answer : success f register ≡ import_answer f register
    unfolding import_answer
    done_answer = sym (at_success number _ _ e)

    pub done_register : register_written f register ≡ register_after f register
    unfolding register_after
    done_register = sym (at_success number _ _ e)

    pub done_hgc : hgc_written f register ≡ hgc_after f register
    unfolding hgc_after
    done_hgc = sym (at_success number _ _ e)

  -- none of 35, 33 and 34
  pub record Passed : Type 0 where
    pub thick : thin f.mode (sender f.hgv) (records register) (tally good (judged register f.rows f.hgv)) ≡ false
    pub slots : length (following f register) ≤ slots_in register
    pub buffer : length (confirmed f register) ≤ length f.hgc

  pub judged_passed : first (judged_stops f register) ≡ 0 → Passed
  unfolding judged_stops numbered fits_at
  judged_passed e =
      let none : None (judged_stops f register) = first_clear (judged_stops f register) refl e in
      record {
        thick = none_at 35 none;
        slots = ltb-false (slots_in register) (length (following f register)) (none_at 33 none);
        buffer = ltb-false (length f.hgc) (length (confirmed f register)) (none_at 34 none);
      }

  -- 0 is answered only where no stop holds
  pub neither : number ≡ 0 → (form_stop f.mode (timed f) register f.rows f.hgv ≡ 0) × (first (judged_stops f register) ≡ 0)
  unfolding import_number stops form_stop
  neither = by_neither (form_stops f.mode (timed f) register f.rows f.hgv) (judged_stops f register) forms

  pub accepted_clear : number ≡ 0 → Formed f register
  accepted_clear e = clear f.mode (timed f) register f.rows f.hgv (neither e).0
