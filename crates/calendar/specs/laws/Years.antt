-- What the calendar's months and years come to: their lengths, the days of many of them in closed form, and 400 years of
-- 146,097 days. Assumes nothing.
use Rattle.std.specs.Prelude.{◌≡◌, Bool, ◌&&◌, ◌||◌, not, ℕ, zero, suc, ◌+◌, ◌*◌, ◌-◌, ◌/◌, ◌%◌, ◌≤◌, ◌<◌, eqb, leb, drop}
use Rattle.std.proofs.Math.Path.{refl, sym, ap}
use Rattle.std.proofs.Common.{◌∙◌, get_or-drop}
use Rattle.std.proofs.Math.Bool.{true, false, cond}
use Rattle.std.proofs.lemmas.Bool.{false≢true}
use mathlib.Core.List.{List, [], ◌∷◌}
use native.Mathlib.Omega.{arith}
use Rattle.std.proofs.Math.Dec.{ltb}
use Rattle.std.proofs.Math.ListN.{get_or}
use borrow.Author.Tests.{eqb-true, eqb-false, eq-eqb, ltb-true, ltb-false, lt-leb}
use Rattle.theory.specs.laws.Truth.{and_none}
use Rattle.theory.specs.Table.{table_from, table_of}
use Rattle.theory.specs.laws.Table.{entry}
use Rattle.fields.specs.Field.{between}
use Rattle.calendar.specs.Calendar.{leap, days_in, real_day, sum, months_to, year_days, years_to, day_seconds, all_seconds}
use Rattle.calendar.specs.Bounds.{Bounds}
use Rattle.calendar.specs.laws.Bounds.{days_most}

-- ---- months and years

-- the twelve months, of a leap year and of a plain one
unfoldable pub lengths : Bool → List ℕ
lengths true = 31 ∷ 29 ∷ 31 ∷ 30 ∷ 31 ∷ 30 ∷ 31 ∷ 31 ∷ 30 ∷ 31 ∷ 30 ∷ 31 ∷ []
lengths false = 31 ∷ 28 ∷ 31 ∷ 30 ∷ 31 ∷ 30 ∷ 31 ∷ 31 ∷ 30 ∷ 31 ∷ 30 ∷ 31 ∷ []

module _ (y : ℕ) where
  -- the days of its months are those listed
  pub months_are : table_of (λ i. days_in y (i + 1)) 12 ≡ lengths (leap y)
  unfolding days_in table_of table_from lengths
  months_are = go (leap y)
    where
      go : (b : Bool) → 31 ∷ cond b 29 28 ∷ 31 ∷ 30 ∷ 31 ∷ 30 ∷ 31 ∷ 31 ∷ 30 ∷ 31 ∷ 30 ∷ 31 ∷ [] ≡ lengths b
      go true = refl
      go false = refl

  -- a year has 366 days or 365
  pub year_is : year_days y ≡ cond (leap y) 366 365
  unfolding days_in year_days sum
  year_is = go (leap y)
    where
      go : (b : Bool) → 31 + cond b 29 28 + 31 + 30 + 31 + 30 + 31 + 31 + 30 + 31 + 30 + 31 ≡ cond b 366 365
      go true = refl
      go false = refl

  -- the days of month m: the m-th entry, and 0 where there is none
  unfoldable pub days_listed : ℕ → ℕ
  days_listed m = get_or (0 ∷ lengths (leap y)) m 0

  no_month : (m : ℕ) → 13 ≤ m → days_listed m ≡ 0
  unfolding days_listed lengths
  no_month m h =
      let e : 13 + (m - 13) ≡ m = omega arith in
      rw e at (sym (get_or-drop 13 (0 ∷ lengths (leap y)) (m - 13) 0)) ∙ go (leap y)
    where
      go : (b : Bool) → get_or (drop 13 (0 ∷ lengths b)) (m - 13) 0 ≡ 0
      go true = refl
      go false = refl

  pub month_listed : (m : ℕ) → days_in y m ≡ days_listed m
  unfolding days_listed days_in table_of table_from
  month_listed m = go (ltb m 13) refl
    where
      go : (b : Bool) → ltb m 13 ≡ b → days_in y m ≡ days_listed m
      go true e = sym (entry (days_in y) 13 m (ltb-true m 13 e)) ∙ ap (λ (ds : List ℕ). get_or (0 ∷ ds) m 0) months_are
      go false e =
          let h : 13 ≤ m = ltb-false m 13 e in
          rw (and_none (leb 1 m) (leb m 12) (lt-leb m 12 (omega arith))) (sym (no_month m h))

  -- so a day is real exactly where its month has it
  pub day_listed : (m d : ℕ) → real_day y m d ≡ between 1 9999 y && between 1 (days_listed m) d
  day_listed m d = rw (month_listed m)

-- ---- many years

-- 1 where a test holds
abbrev one : Bool → ℕ
one b = cond b 1 0

-- a quotient goes up by 1 where nothing remains
turn : (r q q' : ℕ) → (r ≡ 0 → q' ≡ q + 1) → ((r ≡ 0 → ⊥) → q' ≡ q) → q' ≡ q + one (eqb r 0)
turn r q q' f g = go (eqb r 0) refl
  where
    go : (b : Bool) → eqb r 0 ≡ b → q' ≡ q + one b
    go true e = f (eqb-true r 0 e)
    go false e = omega (arith, g (eqb-false r 0 e))

-- every fourth year is a leap year, but every hundredth not, but every four hundredth
leap_day : (a b c : Bool) → (b ≡ true → a ≡ true) → (c ≡ true → b ≡ true) → cond (a && not b || c) 366 365 + one b ≡ 365 + one a + one c
leap_day true true true f g = refl
leap_day true true false f g = refl
leap_day true false true f g = absurd (false≢true (g refl))
leap_day true false false f g = refl
leap_day false true c f g = absurd (false≢true (f refl))
leap_day false false true f g = absurd (false≢true (g refl))
leap_day false false false f g = refl

-- the days of the first n years: 365 in each, and one for each leap year among them
pub years_are : (n : ℕ) → sum year_days n + n / 100 ≡ n * 365 + n / 4 + n / 400
unfolding sum
years_are zero = refl
years_are (suc n) =
    let y : ℕ = suc n in
    omega (
      arith,
      years_are n,
      year_is y,
      leap_day (eqb (y % 4) 0) (eqb (y % 100) 0) (eqb (y % 400) 0)
          (λ e. eq-eqb (y % 4) 0 (omega (arith, eqb-true (y % 100) 0 e)))
          (λ e. eq-eqb (y % 100) 0 (omega (arith, eqb-true (y % 400) 0 e))),
      turn (y % 4) (n / 4) (y / 4) (λ e. omega arith) (λ e. omega arith),
      turn (y % 100) (n / 100) (y / 100) (λ e. omega arith) (λ e. omega arith),
      turn (y % 400) (n / 400) (y / 400) (λ e. omega arith) (λ e. omega arith),
    )

-- any 400 years that follow each other have 146,097 days
pub cycle : (y : ℕ) → sum year_days (y + 400) ≡ sum year_days y + 146097
cycle y = go _ _ _ _ _ _ _ _ (years_are y) (years_are (y + 400)) (omega arith) (omega arith) (omega arith)
  where
    go : (s a b c s' a' b' c' : ℕ) → s + b ≡ y * 365 + a + c → s' + b' ≡ (y + 400) * 365 + a' + c' → a' ≡ a + 100 → b' ≡ b + 4 → c' ≡ c + 1 → s' ≡ s + 146097
    go s a b c s' a' b' c' h k ea eb ec = omega arith

year_most : (y : ℕ) → year_days y ≤ 366
year_most y = rw (year_is y) (go (leap y))
  where
    go : (b : Bool) → cond b 366 365 ≤ 366
    go true = omega arith
    go false = omega arith

-- no year has more than 366 days
pub years_most : (n : ℕ) → years_to n ≤ n * 366
unfolding sum
years_most zero = omega arith
years_most (suc n) = omega (arith, years_most n, year_most (suc n))

-- nor any month more than 31
pub months_most : (y m : ℕ) → months_to y m ≤ m * 31
unfolding sum
months_most y zero = omega arith
months_most y (suc m) = omega (arith, months_most y m, days_most y (suc m))

-- the days before a day, as they are added up: far from what a number can hold
pub days_fit : {y m d h i s : ℕ} → Bounds y m d h i s → years_to (y - 1) + (months_to y (m - 1) + (d - 1)) ≤ 3660000
days_fit {y} {m} x = omega (arith, x.year, x.month, x.day, years_most (y - 1), months_most y (m - 1), days_most y m)

-- all years that a time can have
pub all_seconds_lem : years_to 9999 * day_seconds ≡ all_seconds
all_seconds_lem = omega (arith, years_are 9999)

-- ---- the first months of a year

-- 367 twelfths of a day for each month, as if February had 30 days
unfoldable pub even_months : ℕ → ℕ
even_months m = (m * 367 + 5) / 12

pub months_few : (y m : ℕ) → m < 2 → months_to y m ≡ even_months m
unfolding sum days_in even_months
months_few y zero h = refl
months_few y (suc zero) h = refl
months_few y (suc (suc m)) h = absurd (omega arith)

-- the days of month m, where it is known whether the year is a leap year
days_where : Bool → ℕ → ℕ
days_where b m = cond (between 1 12 m) (cond (eqb m 2) (cond b 29 28) (cond (eqb m 4 || eqb m 6 || eqb m 9 || eqb m 11) 30 31)) 0

-- from February on a leap year lacks one of them, and a plain year two
months_table : (b : Bool) → table_of (λ i. sum (days_where b) (i + 2) + cond b 1 2) 11 ≡ table_of (λ i. even_months (i + 2)) 11
unfolding sum days_where even_months table_of table_from
months_table true = refl
months_table false = refl

months_where : (y m : ℕ) → months_to y m ≡ sum (days_where (leap y)) m
unfolding sum days_in days_where
months_where y zero = refl
months_where y (suc m) = rw (months_where y m)

pub months_more : (y m : ℕ) → 2 ≤ m → m ≤ 12 → months_to y m + cond (leap y) 1 2 ≡ even_months m
months_more y m l k =
    let f : ℕ → ℕ = λ i. sum (days_where (leap y)) (i + 2) + cond (leap y) 1 2 in
    let g : ℕ → ℕ = λ i. even_months (i + 2) in
    let e : m - 2 + 2 ≡ m = omega arith in
    rw (months_where y m)
    (rw e at (sym (entry f 11 (m - 2) (omega arith)) ∙ ap (λ (t : List ℕ). get_or t (m - 2) 0) (months_table (leap y)) ∙ entry g 11 (m - 2) (omega arith)))
