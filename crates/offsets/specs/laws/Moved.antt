-- Times moved by seconds in natural numbers, as the code moves them. Assumes nothing.
use Rattle.std.specs.Prelude.{◌≡◌, Bool, true, false, ◌&&◌, List, ℕ, ◌+◌, ◌*◌, ◌-◌, ◌≤◌, ◌<◌, leb, ltb, neg_ℤ, Option, Some, None}
use Rattle.std.proofs.Math.Path.{refl, ap}
use Rattle.std.proofs.Common.{◌∙◌}
use Rattle.std.proofs.lemmas.Bool.{false≢true}
use Rattle.std.proofs.Math.IntN.{sub_ℕ}
use borrow.Author.Tests.{ltb-true, ltb-false, lt-ltb, le-ltb, le-leb, lt-leb}
use Rattle.theory.specs.laws.Truth.{and_right}
use Rattle.calendar.specs.Calendar.{all_seconds}
use Rattle.times.specs.Seconds.{time_where, time_of, is_real}
use Rattle.offsets.specs.Offset.{time_from, later, local_time, utc_time}
use Rattle.offsets.specs.Ahead.{behind_utc, offset_of}
use Rattle.offsets.specs.laws.Whole.{sub_above, sub_below, sub_neg, sub_minutes}

-- p seconds after 00010101000000 less m
unfoldable pub time_less : ℕ → ℕ → Option ℕ
time_less p m = time_where (leb m p && ltb (p - m) all_seconds) (p - m)

-- p seconds later and m earlier
unfoldable pub moved_by : ℕ → ℕ → Option ℕ → Option ℕ
moved_by p m (Some n) = time_less (n + p) m
moved_by p m None = None

from_less : (p m : ℕ) → time_from (sub_ℕ p m) ≡ time_less p m
unfolding time_from time_less time_where
from_less p m = go (ltb p m) refl
  where
    go : (b : Bool) → ltb p m ≡ b → time_from (sub_ℕ p m) ≡ time_less p m
    go true e = let l : p < m = ltb-true p m e in rw (sub_below p m l, lt-leb m p l)
    go false e = let l : m ≤ p = ltb-false p m e in rw (sub_above p m l, le-leb m p l)

-- ---- as the code finds them

module _ (p m n : ℕ) where
  pub moved_early : n + p < m → moved_by p m (Some n) ≡ None
  unfolding moved_by time_less time_where
  moved_early l = rw (lt-leb m (n + p) l)

  module _ (l : m ≤ n + p) where
    pub moved_late : all_seconds ≤ n + p - m → moved_by p m (Some n) ≡ None
    unfolding moved_by time_less time_where
    moved_late k = rw (le-leb m (n + p) l, le-ltb (n + p - m) all_seconds k)

    pub moved_within : n + p - m < all_seconds → moved_by p m (Some n) ≡ Some (n + p - m)
    unfolding moved_by time_less time_where
    moved_within k = rw (le-leb m (n + p) l, lt-ltb (n + p - m) all_seconds k)

pub moved_none : (p m : ℕ) → moved_by p m None ≡ None
unfolding moved_by
moved_none p m = refl

-- a time that can be written
unfoldable pub Written : Option ℕ → Type 0
Written (Some n) = n < all_seconds
Written None = ⊥

where_written : (b : Bool) (n : ℕ) → (b ≡ true → n < all_seconds) → is_real (time_where b n) ≡ true → Written (time_where b n)
unfolding time_where Written
where_written true n l h = l refl
where_written false n l h = absurd (false≢true h)

-- what is moved and real can
pub moved_written : (p m : ℕ) (x : Option ℕ) → is_real (moved_by p m x) ≡ true → Written (moved_by p m x)
unfolding moved_by time_less
moved_written p m (Some n) h = where_written (leb m (n + p) && ltb (n + p - m) all_seconds) (n + p - m) (λ e. ltb-true (n + p - m) all_seconds (and_right (leb m (n + p)) (ltb (n + p - m) all_seconds) e)) h
moved_written p m None h = absurd (false≢true h)

-- ---- local time and UTC are times so moved

module _ (a : ℕ) where
  later_moved : (x : Option ℕ) → later (offset_of a) x ≡ moved_by (a * 60) (behind_utc * 60) x
  unfolding later moved_by offset_of
  later_moved (Some n) = ap time_from (sub_minutes n a behind_utc) ∙ from_less (n + a * 60) (behind_utc * 60)
  later_moved None = refl

  earlier_moved : (x : Option ℕ) → later (neg_ℤ (offset_of a)) x ≡ moved_by (behind_utc * 60) (a * 60) x
  unfolding later moved_by offset_of
  earlier_moved (Some n) = rw (sub_neg a behind_utc) (ap time_from (sub_minutes n behind_utc a) ∙ from_less (n + behind_utc * 60) (a * 60))
  earlier_moved None = refl

  pub local_moved : (t : List ℕ) → local_time (offset_of a) t ≡ moved_by (a * 60) (behind_utc * 60) (time_of t)
  unfolding local_time
  local_moved t = later_moved (time_of t)

  pub utc_moved : (t : List ℕ) → utc_time (offset_of a) t ≡ moved_by (behind_utc * 60) (a * 60) (time_of t)
  unfolding utc_time
  utc_moved t = earlier_moved (time_of t)
