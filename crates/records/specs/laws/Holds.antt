-- A line that keeps the rules of a record keeps them as it is written. Assumes nothing.
use Rattle.std.specs.Prelude.{◌≡◌, refl, Bool, true, false, cond, ◌&&◌, ◌||◌, List, ℕ, ◌≤◌, leb, length}
use Rattle.std.proofs.Math.Path.{sym}
use Rattle.std.proofs.Common.{◌∙◌, arith, length-take, length-drop}
use Rattle.theory.specs.laws.Truth.{or_true, and_right}
use Rattle.theory.specs.Every.{run}
use Rattle.theory.specs.laws.Every.{run_length}
use Rattle.texts.specs.Field.{field}
use Rattle.fields.specs.Field.{digit, zero_digit, plain}
use Rattle.times.specs.Time.{real_time}
use Rattle.times.specs.laws.Moment.{real_length}
use Rattle.times.specs.Order.{earlier}
use Rattle.sizes.specs.Sizes.{slot_end}
use Rattle.columns.specs.Columns.{text, actor, weight, valid_to}
use Rattle.vehicles.specs.Vehicle.{valid_to_holds, vehicle_holds}
use Rattle.vehicles.specs.laws.Parts.{vehicle_parts}
use Rattle.lines.specs.Rules.{L1, L5, L6, L7, L8, L9, record_holds}
use Rattle.lines.proofs.Coverage.{record_plain}
use Rattle.lines.specs.laws.Agree.{positions_within, record_agrees}
use Rattle.lines.specs.End.{end_of, record_of}
use Rattle.records.specs.Slot.{line_least}
use Rattle.records.specs.laws.Written.{record_front, record_rest, record_end}

-- the rules ask for every position that a record takes over
pub record_long : (l : List ℕ) → record_holds l ≡ true → line_least ≤ length l
unfolding field
record_long l h = omega (arith, simp (length-take, length-drop) at (run_length plain 126 (text slot_end l) (record_plain l h)))

valid_in : (l : List ℕ) → record_holds l ≡ true → valid_to_holds l ≡ true
unfolding record_holds
valid_in l h =
    let front : Bool = run digit 6 (actor l) && L1 l && L5 l && L6 l && L7 l && L8 l && L9 l in
    (vehicle_parts l (and_right front (vehicle_holds l) h)).valid_holds

-- the end of a time is zeros or real, as the time was
end_real : (reception v : List ℕ) → real_time reception ≡ true → run zero_digit 14 v || real_time v ≡ true → run zero_digit 14 (end_of reception v) || real_time (end_of reception v) ≡ true
unfolding end_of
end_real reception v r h = go (run zero_digit 14 v) (earlier reception v) refl
  where
    go : (a b : Bool) → run zero_digit 14 v ≡ a → run zero_digit 14 (cond a v (cond b v reception)) || real_time (cond a v (cond b v reception)) ≡ true
    go true b e = h
    go false true e = h
    go false false e = or_true (run zero_digit 14 reception) (real_time reception) r

module _ (reception l : List ℕ) (h : record_holds l ≡ true) (real : real_time reception ≡ true) where
  front : (a b : ℕ) → leb 2 a && leb a b && leb b 96 ≡ true → field a b (record_of reception l) ≡ field a b l
  front a b k =
      let s = positions_within 2 96 a b k in
      record_front reception l (record_long l h) (real_length reception real) a b s.0 s.1.0 (omega (arith, s.1.1))

  rest : (a b : ℕ) → leb 115 a && leb a b && leb b 127 ≡ true → field a b (record_of reception l) ≡ field a b l
  rest a b k =
      let s = positions_within 115 127 a b k in
      record_rest reception l (record_long l h) (real_length reception real) a b s.0 s.1.0 s.1.1

  digits : run digit 4 (weight (record_of reception l)) ≡ run digit 4 (weight l)
  digits = rw (record_front reception l (record_long l h) (real_length reception real) 97 100 (omega arith) (omega arith) (omega arith))

  valid : valid_to_holds (record_of reception l) ≡ valid_to_holds l
  unfolding valid_to_holds
  valid =
      rw (record_end reception l (record_long l h) (real_length reception real))
      (end_real reception (valid_to l) real (valid_in l h) ∙ sym (valid_in l h))

  pub record_holds_lem : record_holds (record_of reception l) ≡ true
  record_holds_lem = record_agrees l (record_of reception l) front digits valid rest ∙ h
