-- The rules of a record look at a weight for its digits alone, and at an end for its form: two lines that agree in these, and byte for
-- byte in all else, keep them alike. So no record is judged by what it weighs. Assumes nothing.
use Rattle.std.specs.Prelude.{◌≡◌, true, ◌&&◌, List, ◌++◌, ℕ, ◌≤◌, ◌<◌, ◌-◌, leb}
use Rattle.std.proofs.Math.Path.{refl, sym}
use Rattle.std.proofs.Common.{◌∙◌, arith, leb-true}
use Rattle.std.proofs.Math.ListN.{length}
use Rattle.theory.specs.laws.Truth.{and_split}
use Rattle.theory.specs.Every.{run}
use Rattle.theory.specs.laws.Every.{run_length}
use Rattle.texts.specs.Field.{field}
use Rattle.texts.specs.laws.Field.{field_before, field_behind, field_all}
use Rattle.fields.specs.Field.{digit}
use Rattle.columns.specs.Columns.{weight}
use Rattle.vehicles.specs.Vehicle.{tariff_holds, class_holds, emission_holds, product_holds, engine_holds, valid_to_holds, separator_holds, fields_hold, vehicle_holds}
use Rattle.lines.specs.Rules.{L1, L5, L6, L7, L8, L9, record_holds}

-- positions from a to b that lie within others, as a test says it
pub positions_within : (lo hi a b : ℕ) → leb lo a && leb a b && leb b hi ≡ true → (lo ≤ a) × ((a ≤ b) × (b ≤ hi))
positions_within lo hi a b k =
    let s = and_split (leb lo a && leb a b) (leb b hi) k in
    let t = and_split (leb lo a) (leb a b) s.0 in
    (leb-true lo a t.0, (leb-true a b t.1, leb-true b hi s.1))

module _ (l k : List ℕ)
    (front : (a b : ℕ) → leb 2 a && leb a b && leb b 96 ≡ true → field a b k ≡ field a b l)
    (digits : run digit 4 (weight k) ≡ run digit 4 (weight l))
    (valid : valid_to_holds k ≡ valid_to_holds l)
    (rest : (a b : ℕ) → leb 115 a && leb a b && leb b 127 ≡ true → field a b k ≡ field a b l) where
  separators : separator_holds k ≡ separator_holds l
  unfolding separator_holds
  separators = rw (rest 115 116 refl, front 33 42 refl)

  fields : fields_hold k ≡ fields_hold l
  unfolding fields_hold tariff_holds class_holds product_holds engine_holds
  fields =
      rw (
        digits,
        valid,
        separators,
        front 8 13 refl,
        front 46 47 refl,
        front 48 48 refl,
        front 49 49 refl,
        front 86 87 refl,
        front 88 88 refl,
        front 89 91 refl,
        front 92 94 refl,
        front 95 96 refl,
        rest 117 127 refl,
      )

  vehicle : vehicle_holds k ≡ vehicle_holds l
  unfolding vehicle_holds emission_holds
  vehicle = rw (fields, front 80 85 refl)

  pub record_agrees : record_holds k ≡ record_holds l
  unfolding record_holds L1 L5 L6 L7 L8 L9
  record_agrees =
      rw (
        vehicle,
        front 2 7 refl,
        front 14 32 refl,
        front 33 42 refl,
        front 43 45 refl,
        front 50 61 refl,
        front 62 79 refl,
      )

-- ---- another weight in a line's place of it: p are the bytes in front, q those behind

module _ (p q : List ℕ) (n : length p ≡ 96) where
  before : (v : List ℕ) (a b : ℕ) → leb 2 a && leb a b && leb b 96 ≡ true → field a b (p ++ (v ++ q)) ≡ field a b p
  before v a b k = let s = positions_within 2 96 a b k in field_before a b p (v ++ q) (omega (arith, s.0)) s.1.0 (omega (arith, s.1.1))

  behind : (v : List ℕ) → length v ≡ 4 → (a b : ℕ) → 100 < a → field a b (p ++ (v ++ q)) ≡ field (a - 96 - 4) (b - 96 - 4) q
  behind v e a b h = field_behind a b 96 p (v ++ q) n (omega arith) ∙ field_behind (a - 96) (b - 96) 4 v q e (omega arith)

  between : (v : List ℕ) → length v ≡ 4 → weight (p ++ (v ++ q)) ≡ v
  between v e =
      field_behind 97 100 96 p (v ++ q) n (omega arith)
      ∙ field_before 1 4 v q (omega arith) (omega arith) (omega arith)
      ∙ field_all 4 v (omega arith)

  -- any two weights of four digits
  pub unweighed : (v w : List ℕ) → run digit 4 v ≡ true → run digit 4 w ≡ true → record_holds (p ++ (v ++ q)) ≡ record_holds (p ++ (w ++ q))
  unfolding valid_to_holds record_holds L1 L5 L6 L7 L8 L9
  unweighed v w d e =
      let m : length v ≡ 4 = run_length digit 4 v d in
      let o : length w ≡ 4 = run_length digit 4 w e in
      let front : (a b : ℕ) → leb 2 a && leb a b && leb b 96 ≡ true → field a b (p ++ (v ++ q)) ≡ field a b (p ++ (w ++ q)) =
      λ a b h. before v a b h ∙ sym (before w a b h) in
      rw (
        vehicle (p ++ (w ++ q)) (p ++ (v ++ q)) front
            (rw (between v m, between w o, d, e))
            (rw (behind v m 101 114 (omega arith), behind w o 101 114 (omega arith)))
            (λ a b h. let s = positions_within 115 127 a b h in behind v m a b (omega (arith, s.0)) ∙ sym (behind w o a b (omega (arith, s.0)))),
        front 2 7 refl,
        front 14 32 refl,
        front 33 42 refl,
        front 43 45 refl,
        front 50 61 refl,
        front 62 79 refl,
      )
