-- Shifting a time there and back: what a time in range gives, that UTC is found again, and that no offset moves nothing.
-- Assumes nothing.
use Rattle.std.specs.Prelude.{◌≡◌, Bool, ◌&&◌, List, ℤ, negsuc, neg_ℤ, ◌+ℤ◌, ◌*ℤ◌, Some}
use Rattle.std.proofs.Math.Path.{refl, sym, ap}
use Rattle.std.proofs.Common.{◌∙◌, arith}
use Rattle.std.proofs.Math.Bool.{true, false, and-true}
use Rattle.std.proofs.lemmas.Bool.{false≢true}
use Prim.Native.Nat.{ℕ, suc, ◌+◌, ◌*◌, ◌-◌, ◌≤◌, ◌<◌}
use Rattle.std.proofs.Math.Nat.{add-zero}
use Rattle.std.proofs.Math.Dec.{leb, ltb}
use Rattle.std.proofs.Math.IntN.{pos, sub_ℕ}
use Rattle.std.specs.Int.Signed.{le_z}
use borrow.Author.Tests.{leb-true, ltb-true, ltb-false, lt-ltb, le-leb}
use Rattle.theory.specs.laws.Truth.{and_left, and_right, and_both, and_none}
use Rattle.calendar.specs.Calendar.{all_seconds}
use Rattle.times.specs.Time.{real_time}
use Rattle.times.specs.Seconds.{seconds, time_where, time_of, is_real, time_at}
use Rattle.times.specs.laws.Back.{time_real, time_unreal, at_real, at_seconds, seconds_most, at_its_seconds}
use Rattle.offsets.specs.Offset.{offset_holds, time_from, later, local_time, utc_time, text_at, local, utc, reception_holds, utc_holds}
use Rattle.offsets.specs.Ahead.{ahead_most, behind_utc, ahead_of, offset_of}
use Rattle.offsets.specs.laws.Whole.{sub_above, sub_below, sub_minutes}
use Rattle.offsets.specs.laws.Moved.{time_less, moved_by, local_moved, utc_moved}

-- ---- an offset in range is so far ahead

module _ (o : ℤ) (h : offset_holds o ≡ true) where
  low : le_z (neg_ℤ (pos 720)) o ≡ true
  unfolding offset_holds
  low = and_left (le_z (neg_ℤ (pos 720)) o) (le_z o (pos 840)) h

  high : le_z o (pos 840) ≡ true
  unfolding offset_holds
  high = and_right (le_z (neg_ℤ (pos 720)) o) (le_z o (pos 840)) h

pub ahead_most_lem : (o : ℤ) → offset_holds o ≡ true → ahead_of o ≤ ahead_most
unfolding ahead_of
ahead_most_lem (pos n) h = omega (arith, leb-true n 840 (high (pos n) h))
ahead_most_lem (negsuc n) h = omega arith

pub offset_ahead : (o : ℤ) → offset_holds o ≡ true → offset_of (ahead_of o) ≡ o
unfolding offset_of ahead_of
offset_ahead (pos n) h = sub_above (n + behind_utc) behind_utc (omega arith) ∙ ap pos (omega arith)
offset_ahead (negsuc n) h =
    let l : n ≤ 719 = leb-true n 719 (low (negsuc n) h) in
    sub_below (behind_utc - suc n) behind_utc (omega arith) ∙ ap negsuc (omega arith)

pub offset_most : (a : ℕ) → offset_holds (offset_of a) ≡ true → a ≤ ahead_most
unfolding offset_of
offset_most a h = go (ltb a behind_utc) refl
  where
    go : (b : Bool) → ltb a behind_utc ≡ b → a ≤ ahead_most
    go true e = omega (arith, ltb-true a behind_utc e)
    go false e =
        let l : behind_utc ≤ a = ltb-false a behind_utc e in
        omega (arith, leb-true (a - behind_utc) 840 (high (pos (a - behind_utc)) (rw (sub_above a behind_utc l) at h)))

pub offset_in : (a : ℕ) → a ≤ ahead_most → offset_holds (offset_of a) ≡ true
unfolding offset_holds offset_of
offset_in a m = go (ltb a behind_utc) refl
  where
    go : (b : Bool) → ltb a behind_utc ≡ b → le_z (neg_ℤ (pos 720)) (sub_ℕ a behind_utc) && le_z (sub_ℕ a behind_utc) (pos 840) ≡ true
    go true e =
        let l : a < behind_utc = ltb-true a behind_utc e in
        rw (sub_below a behind_utc l) (and_both (leb (behind_utc - suc a) 719) true (le-leb (behind_utc - suc a) 719 (omega arith)) refl)
    go false e =
        let l : behind_utc ≤ a = ltb-false a behind_utc e in
        rw (sub_above a behind_utc l) (le-leb (a - behind_utc) 840 (omega arith))

-- as the code adds it up
pub ahead_sum : (o : ℤ) → offset_holds o ≡ true → o +ℤ pos 720 ≡ pos (ahead_of o)
unfolding ahead_of
ahead_sum (pos n) h = refl
ahead_sum (negsuc n) h =
    let l : n ≤ 719 = leb-true n 719 (low (negsuc n) h) in
    sub_above 720 (suc n) (omega arith)

-- ---- a time that is moved and real

is_real_lem : (b : Bool) (n : ℕ) → is_real (time_where b n) ≡ b
unfolding time_where
is_real_lem true n = refl
is_real_lem false n = refl

module _ (t : List ℕ) where
  -- only a real time is moved to one
  moved_real : (p m : ℕ) → is_real (moved_by p m (time_of t)) ≡ true → real_time t ≡ true
  unfolding moved_by time_of time_where
  moved_real p m h = go (real_time t) refl
    where
      go : (b : Bool) → real_time t ≡ b → b ≡ true
      go true e = refl
      go false e = absurd (false≢true (rw e at h))

-- p seconds later and m earlier, and real
pub record Moved (p m : ℕ) (t : List ℕ) : Type 0 where
  pub real : real_time t ≡ true
  pub least : m ≤ seconds t + p
  pub most : seconds t + p - m < all_seconds
  pub time : moved_by p m (time_of t) ≡ Some (seconds t + p - m)

module _ (p m : ℕ) (t : List ℕ) where
  moved_is : real_time t ≡ true → m ≤ seconds t + p → seconds t + p - m < all_seconds → moved_by p m (time_of t) ≡ Some (seconds t + p - m)
  unfolding moved_by time_less time_where
  moved_is r l k = rw (time_real t r, le-leb m (seconds t + p) l, lt-ltb (seconds t + p - m) all_seconds k)

  pub moved : is_real (moved_by p m (time_of t)) ≡ true → Moved p m t
  unfolding moved_by time_less
  moved h =
      let r : real_time t ≡ true = moved_real t p m h in
      let s : ℕ = seconds t + p in
      let b : leb m s && ltb (s - m) all_seconds ≡ true = sym (is_real_lem (leb m s && ltb (s - m) all_seconds) (s - m)) ∙ rw (time_real t r) at h in
      let l : m ≤ s = leb-true m s (and_left (leb m s) (ltb (s - m) all_seconds) b) in
      let k : s - m < all_seconds = ltb-true (s - m) all_seconds (and_right (leb m s) (ltb (s - m) all_seconds) b) in
      record { real = r; least = l; most = k; time = moved_is r l k }

  module _ (v : Moved p m t) where
    abbrev u : List ℕ
    u = text_at (moved_by p m (time_of t))

    there : u ≡ time_at (seconds t + p - m)
    there = ap text_at v.time

    pub moved_text : real_time u ≡ true
    moved_text = rw there (at_real (seconds t + p - m) v.most)

    pub moved_seconds : seconds u ≡ seconds t + p - m
    moved_seconds = rw there (at_seconds (seconds t + p - m) v.most)

-- and back
module _ (p m : ℕ) (t : List ℕ) (v : Moved p m t) where
  back_seconds : seconds (u p m t v) + m - p ≡ seconds t
  back_seconds = omega (arith, moved_seconds p m t v, v.least)

  back_time : moved_by m p (time_of (u p m t v)) ≡ Some (seconds t)
  back_time =
      moved_is m p (u p m t v) (moved_text p m t v) (omega (arith, moved_seconds p m t v, v.least)) (omega (arith, back_seconds, seconds_most t v.real))
      ∙ ap Some back_seconds

  pub moved_back : text_at (moved_by m p (time_of (u p m t v))) ≡ t
  moved_back = ap text_at back_time ∙ at_its_seconds t v.real

  pub back_real : is_real (moved_by m p (time_of (u p m t v))) ≡ true
  back_real = ap is_real back_time

-- ---- local time and UTC

module _ (o : ℤ) (t : List ℕ) where
  local_unreal : real_time t ≡ false → is_real (local_time o t) ≡ false
  unfolding local_time later
  local_unreal e = rw (time_unreal t e)

  -- the three things that 22 asks of the reception and the offset
  pub record Received : Type 0 where
    pub real : real_time t ≡ true
    pub offset : offset_holds o ≡ true
    pub shown : is_real (local_time o t) ≡ true

  pub received : reception_holds o t ≡ true → Received
  unfolding reception_holds
  received h =
      let front : real_time t && offset_holds o ≡ true = and_left (real_time t && offset_holds o) (is_real (local_time o t)) h in
      record {
        real = and_left (real_time t) (offset_holds o) front;
        offset = and_right (real_time t) (offset_holds o) front;
        shown = and_right (real_time t && offset_holds o) (is_real (local_time o t)) h;
      }

  -- as the code asks them: a local time is real only if UTC is
  pub received_out : offset_holds o ≡ false → false ≡ reception_holds o t
  unfolding reception_holds
  received_out h = sym (rw (h, and_none (real_time t) false refl))

  pub received_in : offset_holds o ≡ true → is_real (local_time o t) ≡ reception_holds o t
  unfolding reception_holds
  received_in h = rw (h, and-true (real_time t)) (go (real_time t) refl)
    where
      go : (b : Bool) → real_time t ≡ b → is_real (local_time o t) ≡ b && is_real (local_time o t)
      go true e = refl
      go false e = local_unreal e

  module _ (h : reception_holds o t ≡ true) where
    abbrev a : ℕ
    a = ahead_of o

    ahead_is : offset_of a ≡ o
    ahead_is = offset_ahead o (received h).offset

    local_is : local_time o t ≡ moved_by (a * 60) (behind_utc * 60) (time_of t)
    local_is = ap (λ z. local_time z t) (sym ahead_is) ∙ local_moved a t

    utc_is : (s : List ℕ) → utc_time o s ≡ moved_by (behind_utc * 60) (a * 60) (time_of s)
    utc_is s = ap (λ z. utc_time z s) (sym ahead_is) ∙ utc_moved a s

    ways : Moved (a * 60) (behind_utc * 60) t
    ways = moved (a * 60) (behind_utc * 60) t (rw local_is at (received h).shown)

    text_is : local o t ≡ u (a * 60) (behind_utc * 60) t ways
    unfolding local
    text_is = ap text_at local_is

    -- local time is a real time
    pub local_real : real_time (local o t) ≡ true
    local_real = rw text_is (moved_text (a * 60) (behind_utc * 60) t ways)

    -- so many minutes after UTC
    pub local_seconds : seconds (local o t) + behind_utc * 60 ≡ seconds t + a * 60
    local_seconds = rw text_is (omega (arith, moved_seconds (a * 60) (behind_utc * 60) t ways, ways.least))

    -- and UTC is found again
    pub local_back : utc o (local o t) ≡ t
    unfolding utc
    local_back = ap text_at (utc_is (local o t)) ∙ rw text_is (moved_back (a * 60) (behind_utc * 60) t ways)

    pub local_utc : utc_holds o (local o t) ≡ true
    unfolding utc_holds
    local_utc =
        and_both (offset_holds o) (is_real (utc_time o (local o t))) (received h).offset
        (ap is_real (utc_is (local o t)) ∙ rw text_is (back_real (a * 60) (behind_utc * 60) t ways))

    -- in whole numbers: local minus UTC is the offset
    pub local_minutes : pos (seconds (local o t)) ≡ pos (seconds t) +ℤ o *ℤ pos 60
    unfolding offset_of
    local_minutes =
        let e : seconds t + a * 60 - behind_utc * 60 ≡ seconds (local o t) = omega (arith, local_seconds) in
        ap pos (sym e)
        ∙ sym (sub_above (seconds t + a * 60) (behind_utc * 60) ways.least)
        ∙ sym (sub_minutes (seconds t) a behind_utc)
        ∙ ap (λ (z : ℤ). pos (seconds t) +ℤ z *ℤ pos 60) ahead_is

  -- and what has a UTC time has a real one
  pub utc_real : utc_holds o t ≡ true → real_time (utc o t) ≡ true
  unfolding utc_holds utc
  utc_real h =
      let i : offset_holds o ≡ true = and_left (offset_holds o) (is_real (utc_time o t)) h in
      let b : ℕ = ahead_of o in
      let e : utc_time o t ≡ moved_by (behind_utc * 60) (b * 60) (time_of t) = ap (λ (z : ℤ). utc_time z t) (sym (offset_ahead o i)) ∙ utc_moved b t in
      rw e (moved_text (behind_utc * 60) (b * 60) t (moved (behind_utc * 60) (b * 60) t (rw e at (and_right (offset_holds o) (is_real (utc_time o t)) h))))

  -- as the code asks it
  pub utc_asked : offset_holds o ≡ true → is_real (utc_time o t) ≡ utc_holds o t
  unfolding utc_holds
  utc_asked h = sym (rw h)

-- a time whose seconds are so many minutes ahead is the local time
pub shown_is : (o : ℤ) (t t' : List ℕ) → offset_holds o ≡ true → real_time t ≡ true → real_time t' ≡ true → seconds t' + behind_utc * 60 ≡ seconds t + ahead_of o * 60
    → (reception_holds o t ≡ true) × (local o t ≡ t')
unfolding local
shown_is o t t' i r r' e =
    let p : ℕ = ahead_of o * 60 in
    let n : seconds t + p - behind_utc * 60 ≡ seconds t' = omega arith in
    let l : local_time o t ≡ Some (seconds t') =
    ap (λ (z : ℤ). local_time z t) (sym (offset_ahead o i)) ∙ local_moved (ahead_of o) t
    ∙ moved_is p (behind_utc * 60) t r (omega arith) (omega (arith, n, seconds_most t' r')) ∙ ap Some n
    in (sym (received_in o t i) ∙ ap is_real l, ap text_at l ∙ at_its_seconds t' r')

-- ---- no offset moves nothing

module _ (t : List ℕ) where
  later_zero : real_time t ≡ true → later (pos 0) (time_of t) ≡ Some (seconds t)
  unfolding later time_from time_where
  later_zero h = rw (time_real t h, add-zero (seconds t), lt-ltb (seconds t) all_seconds (seconds_most t h))

  pub local_zero : real_time t ≡ true → local (pos 0) t ≡ t
  unfolding local local_time
  local_zero h = ap text_at (later_zero h) ∙ at_its_seconds t h

  pub utc_zero : real_time t ≡ true → utc (pos 0) t ≡ t
  unfolding utc utc_time
  utc_zero h = ap text_at (later_zero h) ∙ at_its_seconds t h

  pub utc_holds_zero : real_time t ≡ true → utc_holds (pos 0) t ≡ true
  unfolding utc_holds offset_holds utc_time
  utc_holds_zero h = ap is_real (later_zero h)

  pub received_zero : reception_holds (pos 0) t ≡ real_time t
  unfolding offset_holds local_time
  received_zero = sym (received_in (pos 0) t refl) ∙ go (real_time t) refl
    where
      go : (b : Bool) → real_time t ≡ b → is_real (local_time (pos 0) t) ≡ b
      go true e = ap is_real (later_zero e)
      go false e = local_unreal (pos 0) t e
