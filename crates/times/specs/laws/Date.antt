-- A real date is the first eight digits of a real time, and the day test on eight digits finds it. Assumes nothing.
use Rattle.std.specs.Prelude.{◌≡◌, Bool, List, ◌++◌, ℕ, eqb}
use Rattle.std.proofs.Math.Path.{refl, ap₂}
use Rattle.std.proofs.Common.{sym, ◌∙◌, arith}
use Rattle.std.proofs.Math.Bool.{true, false, ◌&&◌, and-true}
use Rattle.std.proofs.Math.ListN.{length, length-append}
use borrow.Author.Tests.{eqb-true, eq-eqb}
use Rattle.theory.specs.Text.{bytes}
use Rattle.theory.specs.laws.Truth.{and_left, same_truth}
use Rattle.theory.specs.Every.{all, run}
use Rattle.theory.specs.laws.Every.{all_append}
use Rattle.sizes.specs.Sizes.{time_length}
use Rattle.texts.specs.Field.{field}
use Rattle.texts.specs.laws.Field.{field_before, field_behind}
use Rattle.fields.specs.Field.{digit}
use Rattle.numbers.specs.Number.{number, number_after}
use Rattle.calendar.specs.Calendar.{real_day, real_clock, real_moment}
use Rattle.times.specs.Time.{year, month, day, hour, minute, second, real_time, real_date}
use Rattle.times.specs.laws.Moment.{real_all, real_numbers}

abbrev midnight : List ℕ
midnight = bytes "000000"

midnight_clock : real_clock (number (field 1 2 midnight)) (number (field 3 4 midnight)) (number (field 5 6 midnight)) ≡ true
unfolding field number number_after
midnight_clock = refl

module _ (d : List ℕ) where
  date_digits : run digit time_length (d ++ midnight) ≡ run digit 8 d
  unfolding run all
  date_digits =
      ap₂ ◌&&◌
      (same_truth (eqb (length (d ++ midnight)) time_length) (eqb (length d) 8)
      (λ e. eq-eqb (length d) 8 (omega (arith, length-append d midnight, eqb-true (length (d ++ midnight)) time_length e)))
      (λ e. eq-eqb (length (d ++ midnight)) time_length (omega (arith, length-append d midnight, eqb-true (length d) 8 e))))
      (all_append digit d midnight ∙ and-true (all digit d))

  -- the day stands in the first eight bytes
  date_day : (c : List ℕ) → length d ≡ 8 → real_day (year (d ++ c)) (month (d ++ c)) (day (d ++ c)) ≡ real_day (year d) (month d) (day d)
  date_day c l =
      rw (
        field_before 1 4 d c (omega arith) (omega arith) (omega arith),
        field_before 5 6 d c (omega arith) (omega arith) (omega arith),
        field_before 7 8 d c (omega arith) (omega arith) (omega arith),
      )

  date_clock : length d ≡ 8 → real_clock (hour (d ++ midnight)) (minute (d ++ midnight)) (second (d ++ midnight)) ≡ true
  date_clock l =
      rw (field_behind 9 10 8 d midnight l (omega arith), field_behind 11 12 8 d midnight l (omega arith), field_behind 13 14 8 d midnight l (omega arith)) midnight_clock

  pub date_is : real_date d ≡ run digit 8 d && real_day (year d) (month d) (day d)
  unfolding real_date real_time run
  date_is = rw date_digits (go (run digit 8 d) refl) where
    go : (b : Bool) → run digit 8 d ≡ b
        → b && real_moment (year (d ++ midnight)) (month (d ++ midnight)) (day (d ++ midnight)) (hour (d ++ midnight)) (minute (d ++ midnight)) (second (d ++ midnight))
        ≡ b && real_day (year d) (month d) (day d)
    go true e =
        let l : length d ≡ 8 = eqb-true (length d) 8 (and_left (eqb (length d) 8) (all digit d) e) in
        rw (date_day midnight l, date_clock l) (and-true (real_day (year d) (month d) (day d)))
    go false e = refl

module _ (d c : List ℕ) (l : length d ≡ 8) (h : real_time (d ++ c) ≡ true) where
  front_digits : all digit d ≡ true
  front_digits = and_left (all digit d) (all digit c) (rw (all_append digit d c) at (real_all (d ++ c) h))

  front_day : real_day (year d) (month d) (day d) ≡ true
  front_day =
      sym (date_day d c l)
      ∙ and_left (real_day (year (d ++ c)) (month (d ++ c)) (day (d ++ c))) (real_clock (hour (d ++ c)) (minute (d ++ c)) (second (d ++ c))) (real_numbers (d ++ c) h)

  -- the first eight digits of a real time
  pub date_of : real_date d ≡ true
  unfolding run
  date_of = rw (date_is d, eq-eqb (length d) 8 l, front_digits) front_day
