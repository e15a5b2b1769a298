-- What L10 says of the fields, one by one. Assumes nothing.
use Rattle.std.specs.Prelude.{◌≡◌, Bool, true, List, [], ◌∷◌, ℕ}
use Rattle.theory.specs.laws.Truth.{and_split, joined, joined_each}
use Rattle.theory.specs.Each.{Each, none, more}
use Rattle.theory.specs.Every.{run}
use Rattle.fields.specs.Field.{digit, zero_digit, blank}
use Rattle.columns.specs.Columns.{shadow, co2, weight, filler}
use Rattle.vehicles.specs.Vehicle.{tariff_holds, class_holds, emission_holds, product_holds, engine_holds, valid_to_holds, separator_holds, fields_hold, vehicle_holds}

pub record Parts (l : List ℕ) : Type 0 where
  pub emission_holds_lem : emission_holds l ≡ true
  pub shadow_blank : run blank 6 (shadow l) ≡ true
  pub tariff_holds_lem : tariff_holds l ≡ true
  pub class_holds_lem : class_holds l ≡ true
  pub product_holds_lem : product_holds l ≡ true
  pub engine_holds_lem : engine_holds l ≡ true
  pub co2_digits : run digit 2 (co2 l) ≡ true
  pub weight_digits : run digit 4 (weight l) ≡ true
  pub valid_holds : valid_to_holds l ≡ true
  pub separator_holds_lem : separator_holds l ≡ true
  pub filler_zeros : run zero_digit 11 (filler l) ≡ true

pub vehicle_parts : (l : List ℕ) → vehicle_holds l ≡ true → Parts l
unfolding vehicle_holds fields_hold joined
vehicle_parts l h =
    let s = and_split (emission_holds l) (fields_hold l) h in
    ten s.0 (joined_each (run blank 6 (shadow l)) fields s.1)
  where
    fields : List Bool
    fields =
        tariff_holds l ∷ class_holds l ∷ product_holds l ∷ engine_holds l ∷ run digit 2 (co2 l) ∷ run digit 4 (weight l)
        ∷ valid_to_holds l ∷ separator_holds l ∷ run zero_digit 11 (filler l) ∷ []

    ten : emission_holds l ≡ true → Each (λ b. b ≡ true) (run blank 6 (shadow l) ∷ fields) → Parts l
    ten e (more s (more t (more c (more p (more n (more o (more k (more v (more q (more z none)))))))))) =
        record {
          emission_holds_lem = e;
          shadow_blank = s;
          tariff_holds_lem = t;
          class_holds_lem = c;
          product_holds_lem = p;
          engine_holds_lem = n;
          co2_digits = o;
          weight_digits = k;
          valid_holds = v;
          separator_holds_lem = q;
          filler_zeros = z;
        }
