-- The end of a record and its activity by the clock, in seconds since 00010101000000 (T16). Assumes nothing.
use Rattle.std.specs.Prelude.{◌≡◌, refl, Bool, true, false, cond, List, [], ◌∷◌, ℕ, ◌+◌, ◌*◌, ◌-◌, ◌≤◌, max, ltb}
use Rattle.std.proofs.Common.{sym, arith, ltb-true, ltb-false}
use Rattle.std.proofs.Math.Nat.{max-eq_left, max-eq_right}
use Rattle.theory.specs.Text.{byte}
use Rattle.theory.specs.laws.Truth.{and_left, and_right}
use Rattle.theory.specs.Every.{all, run}
use Rattle.theory.specs.laws.Every.{run_all, all_take}
use Rattle.sizes.specs.Sizes.{time_length}
use Rattle.texts.specs.Field.{field}
use Rattle.fields.specs.Field.{zero_digit}
use Rattle.numbers.specs.Number.{number, number_after}
use Rattle.times.specs.Time.{real_time}
use Rattle.calendar.specs.laws.Bounds.{within}
use Rattle.times.specs.Seconds.{seconds}
use Rattle.times.specs.laws.Moment.{real_moment_lem}
use Rattle.times.specs.laws.Order.{byte_order}
use Rattle.columns.specs.Columns.{valid_to}
use Rattle.lines.specs.End.{end_of, active}

zeros_number : (s : List ℕ) → all zero_digit s ≡ true → number_after 0 s ≡ 0
unfolding all number_after
zeros_number [] h = refl
zeros_number (x ∷ s) h =
    let z : (byte "0" ≤ x) × (x ≤ byte "0") = within (byte "0") (byte "0") x (and_left (zero_digit x) (all zero_digit s) h) in
    let e : 0 * 10 + (x - byte "0") ≡ 0 = omega arith in
    rw e (zeros_number s (and_right (zero_digit x) (all zero_digit s) h))

-- zeros are no real time, since there is no year 0000
real_zeros : (v : List ℕ) → real_time v ≡ true → run zero_digit time_length v ≡ false
unfolding number field
real_zeros v h = go (run zero_digit time_length v) refl
  where
    go : (b : Bool) → run zero_digit time_length v ≡ b → b ≡ false
    go false e = refl
    go true e = absurd (omega (arith, (real_moment_lem v h).year.0, zeros_number (field 1 4 v) (all_take zero_digit 4 v (run_all zero_digit time_length v e))))

-- ---- the end

-- zeros stay zeros
pub end_zeros : (reception v : List ℕ) → run zero_digit time_length v ≡ true → end_of reception v ≡ v
unfolding end_of
end_zeros reception v h = rw h

module _ (reception v : List ℕ) (r : real_time reception ≡ true) (h : real_time v ≡ true) where
  -- a later time stays; one not later than reception becomes reception
  pub end_clock : end_of reception v ≡ cond (ltb (seconds reception) (seconds v)) v reception
  unfolding end_of
  end_clock = rw (real_zeros v h, byte_order reception v r h)

  -- so the end has the greater seconds of the two
  pub end_seconds : seconds (end_of reception v) ≡ max (seconds reception) (seconds v)
  end_seconds = rw end_clock (go (ltb (seconds reception) (seconds v)) refl)
    where
      go : (b : Bool) → ltb (seconds reception) (seconds v) ≡ b → seconds (cond b v reception) ≡ max (seconds reception) (seconds v)
      go true e = sym (max-eq_right (omega (arith, ltb-true (seconds reception) (seconds v) e)))
      go false e = sym (max-eq_left (omega (arith, ltb-false (seconds reception) (seconds v) e)))

-- ---- activity

-- with zeros always
pub active_zeros : (t l : List ℕ) → run zero_digit time_length (valid_to l) ≡ true → active t l ≡ true
unfolding active
active_zeros t l h = rw h

-- with a real time exactly where its seconds are above those of t
pub active_clock : (t l : List ℕ) → real_time t ≡ true → real_time (valid_to l) ≡ true → active t l ≡ ltb (seconds t) (seconds (valid_to l))
unfolding active
active_clock t l r h = rw (real_zeros (valid_to l) h, byte_order t (valid_to l) r h)
