-- Each position of a record from 2 to 127 is fixed by a rule (T17): a table of the positions, the rule that fixes them and
-- the bytes that it admits there. That a record's positions are those, and that no byte of it is a control character, stands in
-- `proofs/Coverage`. Assumes nothing.
use Rattle.std.specs.Prelude.{◌≡◌, Bool, ◌&&◌, ◌||◌, leb, length}
use Rattle.std.proofs.Math.Path.{refl}
use Rattle.std.proofs.Common.{arith, eqb-true}
use Rattle.std.proofs.Math.Bool.{true}
use mathlib.Core.List.{List, [], ◌∷◌}
use Prim.Native.Nat.{ℕ}
use Rattle.std.proofs.Math.Dec.{eqb}
use Rattle.theory.specs.Text.{byte, bytes}
use Rattle.theory.specs.laws.Truth.{and_left, and_split, or_true, either}
use Rattle.theory.specs.Each.{Each, none, more}
use Rattle.theory.specs.Every.{all, run}
use Rattle.theory.specs.laws.Every.{all_run, run_wider}
use Rattle.sizes.specs.Sizes.{time_length}
use Rattle.texts.specs.Field.{field, listed}
use Rattle.texts.specs.laws.Field.{field_field}
use Rattle.fields.specs.Field.{digit, zero_digit, blank, capital}
use Rattle.fields.specs.laws.Listed.{listed_run}
use Rattle.fields.specs.laws.Spans.{Span, span, or_blank, one_of, cover, Held, Fixes, spans_run}
use Rattle.characters.specs.Characters.{hex, filled}
use Rattle.characters.specs.laws.Filled.{filled_all}
use Rattle.numbers.specs.Number.{number}
use Rattle.times.specs.Time.{real_time}
use Rattle.calendar.specs.laws.Bounds.{within}
use Rattle.times.specs.laws.Moment.{real_length, real_all}
use Rattle.pans.specs.Pan.{pan_length, pan}
use Rattle.plates.specs.Plate.{allowed, plate_length, plate, nationality, separator, separated, plate_characters}
use Rattle.columns.specs.Columns.{actor, pan_of, plate_of, nationality_of, tariff, class, axles, emission, fuel, chargeable, product_rest, engine, valid_to, separator_of}
use Rattle.vehicles.specs.Vehicle.{tariff_holds, class_holds, emission_holds, product_holds, engine_holds, valid_to_holds, separator_holds, vehicle_holds}
use Rattle.vehicles.specs.laws.Parts.{Parts, vehicle_parts}
use Rattle.lines.specs.Rules.{L1, L6, L7, L8, L9}

-- a record's actor has six digits
abbrev six_digits : List ℕ → Bool
six_digits l = run digit 6 (actor l)

unfoldable pub spans : List Span
spans =
    span 2 7 six_digits digit
    ∷ span 8 13 vehicle_holds blank
    ∷ span 14 32 L1 (or_blank digit)
    ∷ span 33 42 L6 (or_blank allowed)
    ∷ span 43 44 L7 capital
    ∷ span 45 45 L7 blank
    ∷ span 46 47 vehicle_holds (one_of (bytes "1234567"))
    ∷ span 48 48 vehicle_holds (or_blank digit)
    ∷ span 49 49 vehicle_holds (or_blank digit)
    ∷ span 50 61 L8 hex
    ∷ span 62 79 L9 hex
    ∷ span 80 85 vehicle_holds (one_of (bytes "01234567EVuro "))
    ∷ span 86 87 vehicle_holds (one_of (bytes "01234569"))
    ∷ span 88 88 vehicle_holds (one_of (bytes "YN"))
    ∷ span 89 91 vehicle_holds blank
    ∷ span 92 94 vehicle_holds digit
    ∷ span 95 96 vehicle_holds digit
    ∷ span 97 100 vehicle_holds digit
    ∷ span 101 114 vehicle_holds digit
    ∷ span 115 116 vehicle_holds digit
    ∷ span 117 127 vehicle_holds zero_digit
    ∷ []

pub spans_cover : cover 2 127 spans ≡ true
unfolding cover spans
spans_cover = refl

-- ---- span by span

zero_digit_lem : (b : ℕ) → zero_digit b ≡ true → digit b ≡ true
zero_digit_lem b h = let s = within (byte "0") (byte "0") b h in let e : b ≡ byte "0" = omega arith in rw e

module _ (l : List ℕ) where
  pan_held : L1 l ≡ true → Held l (span 14 32 L1 (or_blank digit))
  unfolding L1 pan
  pan_held h =
      let s = and_split (eqb (length (pan_of l)) pan_length) (filled digit (pan_of l)) h in
      all_run (or_blank digit) pan_length (pan_of l) (eqb-true (length (pan_of l)) pan_length s.0) (filled_all digit (pan_of l) s.1)

  plate_held : L6 l ≡ true → Held l (span 33 42 L6 (or_blank allowed))
  unfolding L6 plate
  plate_held h =
      let s = and_split (eqb (length (plate_of l)) plate_length) (filled allowed (plate_of l)) h in
      all_run (or_blank allowed) plate_length (plate_of l) (eqb-true (length (plate_of l)) plate_length s.0) (filled_all allowed (plate_of l) s.1)

  nationality_held : L7 l ≡ true → Held l (span 43 44 L7 capital) × Held l (span 45 45 L7 blank)
  unfolding L7 nationality
  nationality_held h =
      let f : List ℕ = nationality_of l in
      let s₂ = and_split (eqb (length f) 3 && run capital 2 (field 1 2 f)) (run blank 1 (field 3 3 f)) h in
      let s₁ = and_split (eqb (length f) 3) (run capital 2 (field 1 2 f)) s₂.0 in
      (rw (field_field 1 2 43 45 l (omega arith) (omega arith) (omega arith)) at s₁.1, rw (field_field 3 3 43 45 l (omega arith) (omega arith) (omega arith)) at s₂.1)

  digit_or_blank : (f : List ℕ) → run digit 1 f || run blank 1 f ≡ true → run (or_blank digit) 1 f ≡ true
  digit_or_blank f h =
      either (run (or_blank digit) 1 f ≡ true) (run digit 1 f) (run blank 1 f) h (run_wider digit (or_blank digit) (λ b e. rw e) 1 f) (run_wider blank (or_blank digit) (λ b. or_true (digit b) (blank b)) 1 f)

  class_held : class_holds l ≡ true → Held l (span 48 48 vehicle_holds (or_blank digit)) × Held l (span 49 49 vehicle_holds (or_blank digit))
  unfolding class_holds
  class_held h =
      let s = and_split (run digit 1 (class l) || run blank 1 (class l)) (run digit 1 (axles l) || run blank 1 (axles l)) h in
      (digit_or_blank (class l) s.0, digit_or_blank (axles l) s.1)

  tariff_held : tariff_holds l ≡ true → Held l (span 46 47 vehicle_holds (one_of (bytes "1234567")))
  unfolding tariff_holds all one_of
  tariff_held = listed_run (one_of (bytes "1234567")) 2 _ (tariff l) refl

  emission_held : emission_holds l ≡ true → Held l (span 80 85 vehicle_holds (one_of (bytes "01234567EVuro ")))
  unfolding emission_holds all one_of
  emission_held = listed_run (one_of (bytes "01234567EVuro ")) 6 _ (emission l) refl

  engine_held : engine_holds l ≡ true → Held l (span 92 94 vehicle_holds digit)
  unfolding engine_holds
  engine_held = and_left (run digit 3 (engine l)) (leb (number (engine l)) 52 || eqb (number (engine l)) 255)

  valid_held : valid_to_holds l ≡ true → Held l (span 101 114 vehicle_holds digit)
  unfolding valid_to_holds
  valid_held h =
      either (run digit time_length (valid_to l) ≡ true) (run zero_digit time_length (valid_to l)) (real_time (valid_to l)) h (run_wider zero_digit digit zero_digit_lem time_length (valid_to l))
      (λ r. all_run digit time_length (valid_to l) (real_length (valid_to l) r) (real_all (valid_to l) r))

  separator_held : separator_holds l ≡ true → Held l (span 115 116 vehicle_holds digit)
  unfolding separator_holds separator
  separator_held =
      let f : List ℕ = separator_of l in
      and_left (run digit 2 f) (separated (number (field 1 1 f)) (number (field 2 2 f)) (plate_characters (plate_of l)))

  product_held : product_holds l ≡ true → Held l (span 86 87 vehicle_holds (one_of (bytes "01234569"))) × Held l (span 88 88 vehicle_holds (one_of (bytes "YN"))) × Held l (span 89 91 vehicle_holds blank)
  unfolding product_holds all one_of
  product_held h =
      let s₂ = and_split (listed 2 (bytes "01020304050609101112131415202122") (fuel l) && listed 1 (bytes "YN") (chargeable l)) (run blank 3 (product_rest l)) h in
      let s₁ = and_split (listed 2 (bytes "01020304050609101112131415202122") (fuel l)) (listed 1 (bytes "YN") (chargeable l)) s₂.0 in
      (listed_run (one_of (bytes "01234569")) 2 _ (fuel l) refl s₁.0, listed_run (one_of (bytes "YN")) 1 _ (chargeable l) refl s₁.1, s₂.1)

  -- each rule holds only where its positions are there and hold what it admits
  pub spans_hold : Each (Fixes l) spans
  unfolding spans L8 L9
  spans_hold =
      let part : vehicle_holds l ≡ true → Parts l = vehicle_parts l in
      more (λ h. h)
      (more (λ h. (part h).shadow_blank)
      (more pan_held
      (more plate_held
      (more (λ h. (nationality_held h).0)
      (more (λ h. (nationality_held h).1)
      (more (λ h. tariff_held (part h).tariff_holds_lem)
      (more (λ h. (class_held (part h).class_holds_lem).0)
      (more (λ h. (class_held (part h).class_holds_lem).1)
      (more (λ h. h)
      (more (λ h. h)
      (more (λ h. emission_held (part h).emission_holds_lem)
      (more (λ h. (product_held (part h).product_holds_lem).0)
      (more (λ h. (product_held (part h).product_holds_lem).1)
      (more (λ h. (product_held (part h).product_holds_lem).2)
      (more (λ h. engine_held (part h).engine_holds_lem)
      (more (λ h. (part h).co2_digits)
      (more (λ h. (part h).weight_digits)
      (more (λ h. valid_held (part h).valid_holds)
      (more (λ h. separator_held (part h).separator_holds_lem)
      (more (λ h. (part h).filler_zeros) none))))))))))))))))))))

  -- blanks are refused in 92-116: there zeros mean missing
  pub blanks_refused : vehicle_holds l ≡ true → run digit 25 (field 92 116 l) ≡ true
  unfolding cover
  blanks_refused h =
      let m : Parts l = vehicle_parts l h in
      let digits : (x : ℕ) → digit x ≡ true → digit x ≡ true = λ x e. e in
      spans_run l digit (span 92 94 vehicle_holds digit ∷ span 95 96 vehicle_holds digit ∷ span 97 100 vehicle_holds digit ∷ span 101 114 vehicle_holds digit ∷ span 115 116 vehicle_holds digit ∷ []) 92 116 (omega arith) refl
      (more (engine_held m.engine_holds_lem, digits)
      (more (m.co2_digits, digits)
      (more (m.weight_digits, digits)
      (more (valid_held m.valid_holds, digits)
      (more (separator_held m.separator_holds_lem, digits) none)))))
