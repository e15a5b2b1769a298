-- Imports under any limits of weight: what an accepted one has, and that every accepted import of today is one. Assumes nothing.
use Rattle.std.specs.Prelude.{◌≡◌, Bool, List, ◌++◌, ℕ, ◌≤◌, length, take, drop}
use Rattle.weights.specs.Weights.{weight_holds}
use Rattle.hgv.specs.Layout.{lines_in}
use Rattle.provider.specs.Counted.{Counted}
use Rattle.reading.specs.Promises.{ReadBack}
use Rattle.stops.specs.laws.Clear.{clear, clear_none}
use Rattle.imports.specs.Imported.{Imported}
use Rattle.imports.specs.Handed.{Handed}
use Rattle.imports.specs.Import.{following, confirmed, success, register_written, timed}
use Rattle.importer.specs.Promises.{Import}
use Rattle.imports.specs.laws.Numbers.{accepted_clear}
use Rattle.imports.proofs.Room.{accepted_passed}
use Rattle.demands.specs.History.{acceptance}
use Rattle.demands.specs.Weighed.{judged_under, following_by, AcceptedUnder, own_counts, acceptance_by}
use Rattle.demands.specs.laws.Imports.{number_0, done_is, register_is}
use Rattle.demands.specs.laws.Sound.{Sound, sound}
use Rattle.demands.specs.laws.Read.{read_sound}
use Rattle.demands.specs.laws.Weighed.{judged_today, hgc_cut}

pub accepted_sound : (limit : List ℕ → Bool) (f : Handed) (register b g : List ℕ) → AcceptedUnder limit f register b g → Sound f register (judged_under limit f register)
accepted_sound limit f register b g a = sound limit f register (clear f.mode (timed f) register f.rows f.hgv a.form) a.room

module _ (f : Handed) (register : List ℕ) (r : Imported) (b g : List ℕ) (o : Import f register r b g) (z : r.number ≡ 0) where
  pub accepted_today : AcceptedUnder weight_holds f register b (take r.length g)
  unfolding following_by following register_written confirmed
  accepted_today =
      let e = number_0 f register r b g o z in
      record {
        form = clear_none f.mode (timed f) register f.rows f.hgv (accepted_clear f register e);
        room = rw (judged_today f register) (accepted_passed f register e).slots;
        after = rw (judged_today f register) (register_is f register r b g o z);
        sent_back = rw (judged_today f register) (hgc_cut f register r b g o z);
      }

  -- and is told as one
  pub told_today : acceptance f r g ≡ acceptance_by (judged_under weight_holds f register) f (take r.length g)
  unfolding acceptance acceptance_by own_counts success
  told_today = rw (judged_today f register, done_is f register r b g o z)

-- ---- read back

-- what an import under any limits sent back, by any outcome of reading it back
pub read_under : (limit : List ℕ → Bool) (f : Handed) (register b g : List ℕ) → AcceptedUnder limit f register b g
    → (block : List ℕ) (u : Counted) (w : List ℕ) → ReadBack f.hgv g block u w → lines_in f.hgv ≤ length block
    → (u ≡ own_counts (judged_under limit f register)) × (w ≡ judged_under limit f register ++ drop (lines_in f.hgv) block)
read_under limit f register b g a block u w p m = read_sound f register _ (accepted_sound limit f register b g a) block u w (rw a.sent_back at p) m
