-- What is written of a line: how long it is, and what its fields are. Assumes nothing.
use Rattle.std.specs.Prelude.{◌≡◌, Bool, true, false, cond, ◌||◌, List, ◌++◌, ℕ, ◌+◌, ◌-◌, ◌≤◌, length}
use Rattle.std.proofs.Math.Path.{refl, sym, ap}
use Rattle.std.proofs.Common.{◌∙◌}
use native.Mathlib.Omega.{arith}
use Rattle.std.proofs.Math.ListN.{length-append}
use Rattle.theory.specs.Text.{bytes}
use Rattle.theory.specs.Every.{run}
use Rattle.sizes.specs.Sizes.{slot_end, time_length}
use Rattle.texts.specs.Field.{field, line_end}
use Rattle.texts.specs.laws.Field.{field_length, field_before, field_behind, field_field, field_all}
use Rattle.fields.specs.Field.{zero_digit}
use Rattle.times.specs.Order.{earlier}
use Rattle.columns.specs.Columns.{valid_to}
use Rattle.lines.specs.End.{end_of, record_of}
use Rattle.records.specs.Slot.{line_least}

-- two tests of which one is enough
either : {A : Type 0} (a b : Bool) (x y : A) → cond a x (cond b x y) ≡ cond (a || b) x y
either true b x y = refl
either false b x y = refl

-- as a writer learns it: z and y are what the two tests say
module _ (reception v : List ℕ) (z y : Bool) (ez : z ≡ run zero_digit 14 v) (ey : y ≡ earlier reception v) where
  -- zeros, and a time later than reception, stay
  pub end_stays : z || y ≡ true → v ≡ end_of reception v
  unfolding end_of
  end_stays h = sym (either (run zero_digit 14 v) (earlier reception v) v reception ∙ rw (← ez, ← ey, h))

  -- any other becomes reception
  pub end_cut : z || y ≡ false → reception ≡ end_of reception v
  unfolding end_of
  end_cut h = sym (either (run zero_digit 14 v) (earlier reception v) v reception ∙ rw (← ez, ← ey, h))

pub length_end : (reception v : List ℕ) → length v ≡ time_length → length reception ≡ time_length → length (end_of reception v) ≡ time_length
length_end reception v h k = go (run zero_digit 14 v || earlier reception v) refl
  where
    go : (t : Bool) → run zero_digit 14 v || earlier reception v ≡ t → length (end_of reception v) ≡ time_length
    go true e = rw (← end_stays reception v _ _ refl refl e) h
    go false e = rw (← end_cut reception v _ _ refl refl e) k

-- ---- the record

module _ (reception l : List ℕ) (long : line_least ≤ length l) (dated : length reception ≡ time_length) where
  size_front : length (field 2 100 l) ≡ 99
  size_front = field_length 2 100 l (omega arith) (omega arith)

  size_end : length (end_of reception (valid_to l)) ≡ time_length
  size_end = length_end reception (valid_to l) (field_length 101 114 l (omega arith) (omega arith)) dated

  size_rest : length (field 115 127 l) ≡ 13
  size_rest = field_length 115 127 l (omega arith) (omega arith)

  -- the record up to Weight, up to Valid to, and up to its last field
  to_weight : List ℕ
  to_weight = bytes "1" ++ field 2 100 l

  to_end : List ℕ
  to_end = to_weight ++ end_of reception (valid_to l)

  to_filler : List ℕ
  to_filler = to_end ++ field 115 127 l

  size₁ : length to_weight ≡ 100
  unfolding to_weight
  size₁ = omega (arith, size_front)

  size₂ : length to_end ≡ 114
  unfolding to_end
  size₂ = simp length-append (omega (arith, size₁, size_end))

  size₃ : length to_filler ≡ line_least
  unfolding to_filler
  size₃ = simp length-append (omega (arith, size₂, size_rest))

  pub length_record : length (record_of reception l) ≡ slot_end
  unfolding record_of to_filler to_end to_weight
  length_record = length-append to_filler line_end ∙ ap (λ (n : ℕ). n + 1) size₃

  -- positions 2 to 100 are the line's
  pub record_front : (a b : ℕ) → 2 ≤ a → a ≤ b → b ≤ 100 → field a b (record_of reception l) ≡ field a b l
  unfolding record_of to_filler to_end to_weight
  record_front a b h k m =
      let e : 2 - 1 + (a - 1) ≡ a = omega arith in
      let f : 2 - 1 + (b - 1) ≡ b = omega arith in
      field_before a b to_filler line_end (omega arith) k (omega (arith, size₃))
      ∙ field_before a b to_end (field 115 127 l) (omega arith) k (omega (arith, size₂))
      ∙ field_before a b to_weight (end_of reception (valid_to l)) (omega arith) k (omega (arith, size₁))
      ∙ field_behind a b 1 (bytes "1") (field 2 100 l) refl (omega arith)
      ∙ field_field (a - 1) (b - 1) 2 100 l (omega arith) (omega arith) (omega arith)
      ∙ rw (e, f)

  -- so are those from 115 to 127
  pub record_rest : (a b : ℕ) → 115 ≤ a → a ≤ b → b ≤ 127 → field a b (record_of reception l) ≡ field a b l
  unfolding record_of to_filler to_end to_weight
  record_rest a b h k m =
      let e : 115 - 1 + (a - 114) ≡ a = omega arith in
      let f : 115 - 1 + (b - 114) ≡ b = omega arith in
      field_before a b to_filler line_end (omega arith) k (omega (arith, size₃))
      ∙ field_behind a b 114 to_end (field 115 127 l) size₂ (omega arith)
      ∙ field_field (a - 114) (b - 114) 115 127 l (omega arith) (omega arith) (omega arith)
      ∙ rw (e, f)

  -- Valid to is the line's end
  pub record_end : valid_to (record_of reception l) ≡ end_of reception (valid_to l)
  unfolding record_of to_filler to_end to_weight
  record_end =
      field_before 101 114 to_filler line_end (omega arith) (omega arith) (omega (arith, size₃))
      ∙ field_before 101 114 to_end (field 115 127 l) (omega arith) (omega arith) (omega (arith, size₂))
      ∙ field_behind 101 114 100 to_weight (end_of reception (valid_to l)) size₁ (omega arith)
      ∙ field_all time_length (end_of reception (valid_to l)) (omega (arith, size_end))

  pub record_first : field 1 1 (record_of reception l) ≡ bytes "1"
  unfolding record_of field
  record_first = refl

  pub record_last : field slot_end slot_end (record_of reception l) ≡ line_end
  unfolding record_of to_filler to_end to_weight
  record_last = field_behind slot_end slot_end line_least to_filler line_end size₃ (omega arith) ∙ field_all 1 line_end (omega arith)
