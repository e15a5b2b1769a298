-- No stop from 21 to 32 is given where what was handed over is clear of each, and only there; with an index, 36 among them.
-- Assumes nothing.
use Rattle.std.specs.Prelude.{◌≡◌, Bool, List, ℕ, ◌≤◌}
use Rattle.std.proofs.Math.Path.{refl}
use borrow.Author.Tests.{not-false, ltb-false, le-ltb}
use Rattle.theory.specs.First.{None, first, choose}
use Rattle.theory.specs.laws.First.{first_clear, numbered, fits_at, none_at}
use Rattle.issuers.specs.Rows.{rows_hold}
use Rattle.hgv.specs.Layout.{length_holds}
use Rattle.frames.specs.Frames.{footer_holds, frames_hold}
use Rattle.header.specs.Header.{header_holds}
use Rattle.claims.specs.Claims.{version_holds, count_holds}
use Rattle.register.specs.Register.{in_order}
use Rattle.slots.specs.Slots.{slots_in}
use Rattle.stops.specs.Stops.{mode_holds, addressed, call_stops, file_stops, form_stops, form_stop, index_short, indexed_form_stops, indexed_form_stop}
use Rattle.stops.specs.Clear.{Clear}

module _ (mode : ℕ) (timed : Bool) (register b h : List ℕ) where
  pub clear : form_stop mode timed register b h ≡ 0 → Clear mode timed register b h
  unfolding form_stop form_stops call_stops file_stops numbered fits_at
  clear e =
      let none : None (form_stops mode timed register b h) = first_clear (form_stops mode timed register b h) refl e in
      record {
        moded = not-false (mode_holds mode) (none_at 21 none);
        received = not-false timed (none_at 22 none);
        ordered = not-false (in_order register) (none_at 23 none);
        rowed = not-false (rows_hold b) (none_at 24 none);
        sized = not-false (length_holds h) (none_at 25 none);
        headed = not-false (header_holds h) (none_at 26 none);
        versioned = not-false (version_holds h) (none_at 27 none);
        fitting = none_at 28 none;
        sent = not-false (addressed b h) (none_at 29 none);
        counted = not-false (count_holds h) (none_at 30 none);
        footed = not-false (footer_holds h) (none_at 31 none);
        framed = not-false (frames_hold h) (none_at 32 none);
      }

  -- and only then
  pub clear_none : Clear mode timed register b h → form_stop mode timed register b h ≡ 0
  unfolding form_stop form_stops call_stops file_stops first choose
  clear_none c =
      rw (c.moded, c.received, c.ordered, c.rowed, c.sized, c.headed, c.versioned, c.fitting, c.sent, c.counted, c.footed, c.framed)

  -- ---- the same with an index of k numbers
  module _ (k : ℕ) where
    -- where it is long enough the stops of form are those of the import
    pub indexed_same : slots_in register ≤ k → indexed_form_stop mode timed register b k h ≡ form_stop mode timed register b h
    unfolding indexed_form_stop indexed_form_stops form_stop form_stops call_stops index_short first choose
    indexed_same l = rw (le-ltb k (slots_in register) l)

    pub indexed_long : indexed_form_stop mode timed register b k h ≡ 0 → slots_in register ≤ k
    unfolding indexed_form_stop indexed_form_stops call_stops file_stops index_short numbered fits_at
    indexed_long e = ltb-false k (slots_in register) (none_at 36 (first_clear (indexed_form_stops mode timed register b k h) refl e))
