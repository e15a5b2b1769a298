-- A stamp that is written holds. Assumes nothing.
use Rattle.std.specs.Prelude.{◌≡◌, true, List, ℕ, length}
use Rattle.theory.specs.Every.{all, run}
use Rattle.sizes.specs.Sizes.{time_length}
use Rattle.times.specs.Time.{real_time}
use Rattle.times.specs.laws.Moment.{real_length}
use Rattle.sequences.specs.Sequence.{list_length, sequence}
use Rattle.sequences.specs.laws.Length.{sequence_length}
use Rattle.stamps.specs.Stamp.{stamp, stamp_holds}
use Rattle.stamps.specs.laws.Stamp.{length_stamp, stamp_list, stamp_reception, stamp_zeros}

module _ (list reception : List ℕ) (n : length list ≡ list_length) (m : length reception ≡ time_length) where
  pub stamp_held : (who : List ℕ) → sequence who list ≡ true → real_time reception ≡ true → stamp_holds who (stamp list reception) ≡ true
  unfolding stamp_holds run all
  stamp_held who s t =
      rw (
        length_stamp list reception n m,
        stamp_list list reception n m,
        stamp_reception list reception n m,
        stamp_zeros list reception n m,
        s,
        t,
      )

-- a list of the actor, and a real time
pub stamp_holds_lem : (who list reception : List ℕ) → sequence who list ≡ true → real_time reception ≡ true → stamp_holds who (stamp list reception) ≡ true
stamp_holds_lem who list reception s t = stamp_held list reception (sequence_length who list s) (real_length reception t) who s t
