-- Laws of a line without fault, which meets the rules of a record. Assumes nothing.
use Rattle.std.specs.Prelude.{◌≡◌, Bool, false, ◌&&◌, List, ℕ, eqb, length, take, get_or}
use Rattle.std.proofs.Math.Path.{refl}
use Rattle.std.proofs.Math.Bool.{true}
use Rattle.std.proofs.Common.{arith, get_or-take}
use borrow.Author.Tests.{not-false}
use Rattle.theory.specs.Text.{byte}
use Rattle.theory.specs.First.{None, none, more, choose, first}
use Rattle.theory.specs.laws.First.{first_clear, numbered}
use Rattle.theory.specs.laws.Same.{eqs_true}
use Rattle.theory.specs.Every.{run}
use Rattle.theory.specs.laws.Every.{run_length, run_all, all_at}
use Rattle.theory.specs.laws.Truth.{and_left, and_right, and_split}
use Rattle.texts.specs.Field.{field}
use Rattle.fields.specs.Field.{digit, capital, blank}
use Rattle.calendar.specs.laws.Bounds.{within}
use Rattle.plates.specs.Plate.{nationality}
use Rattle.vehicles.specs.Vehicle.{vehicle_holds}
use Rattle.weights.specs.Weights.{weight_holds}
use Rattle.columns.specs.Columns.{actor, nationality_of}
use Rattle.lines.specs.Rules.{L1, L2, L3, L4, L5, L6, L7, L8, L9, L10, nationality_blank, rules_by, line_rules, line_fault, record_holds}
use Rattle.lines.specs.Faultless.{Faultless}

-- two capitals are no blanks
nationality_given : (l : List ℕ) → L7 l ≡ true → nationality_blank l ≡ false
unfolding L7 nationality nationality_blank field
nationality_given l h = go (run blank 3 (nationality_of l)) refl
  where
    go : (b : Bool) → run blank 3 (nationality_of l) ≡ b → b ≡ false
    go false e = refl
    go true e =
        let f : List ℕ = nationality_of l in
        let s = and_split (eqb (length f) 3 && run capital 2 (field 1 2 f)) (run blank 1 (field 3 3 f)) h in
        let c : run capital 2 (field 1 2 f) ≡ true = and_right (eqb (length f) 3) (run capital 2 (field 1 2 f)) s.0 in
        let n : length (field 1 2 f) ≡ 2 = run_length capital 2 (field 1 2 f) c in
        let m : length f ≡ 3 = run_length blank 3 f e in
        let x : capital (get_or (take 2 f) 0 0) ≡ true = all_at capital (field 1 2 f) 0 (run_all capital 2 (field 1 2 f) c) (omega arith) in
        let y : blank (get_or f 0 0) ≡ true = all_at blank f 0 (run_all blank 3 f e) (omega arith) in
        absurd (omega (arith, within (byte "A") (byte "Z") (get_or (take 2 f) 0 0) x, within (byte " ") (byte " ") (get_or f 0 0) y, get_or-take 2 f 0 0 (omega arith)))

module _ (rows sender l : List ℕ) where
  pub faultless : line_fault rows sender l ≡ 0 → Faultless rows sender l
  unfolding line_fault line_rules rules_by numbered
  faultless h = go (first_clear (line_rules rows sender l) refl h)
    where
      go : None (line_rules rows sender l) → Faultless rows sender l
      go (more h₁ (more h₂ (more h₃ (more h₄ (more h₅ (more h₆ (more h₀ (more h₇ (more h₈ (more h₉ (more h₁₀ none))))))))))) =
          record {
            l1 = not-false (L1 l) h₁;
            l2 = not-false (L2 sender l) h₂;
            l3 = not-false (L3 rows sender l) h₃;
            l4 = not-false (L4 rows sender l) h₄;
            l5 = not-false (L5 l) h₅;
            l6 = not-false (L6 l) h₆;
            l7 = not-false (L7 l) h₇;
            l8 = not-false (L8 l) h₈;
            l9 = not-false (L9 l) h₉;
            l10 = not-false (L10 l) h₁₀;
          }

  -- a line that passes is the sender's, and meets the rules of a record, whatever L10 asks beside the vehicle's fields
  pub passes_record : (l10 : Bool) → (l10 ≡ true → vehicle_holds l ≡ true) → run digit 6 sender ≡ true → first (rules_by l10 rows sender l) ≡ 0
      → (L2 sender l ≡ true) × (record_holds l ≡ true)
  unfolding rules_by numbered record_holds L2
  passes_record l10 v d h = go (first_clear (rules_by l10 rows sender l) refl h)
    where
      go : None (rules_by l10 rows sender l) → (L2 sender l ≡ true) × (record_holds l ≡ true)
      go (more h₁ (more h₂ (more h₃ (more h₄ (more h₅ (more h₆ (more h₀ (more h₇ (more h₈ (more h₉ (more h₁₀ none))))))))))) =
          let o : L2 sender l ≡ true = not-false (L2 sender l) h₂ in (
            o,
            rw (
              eqs_true (actor l) sender o,
              d,
              not-false (L1 l) h₁,
              not-false (L5 l) h₅,
              not-false (L6 l) h₆,
              not-false (L7 l) h₇,
              not-false (L8 l) h₈,
              not-false (L9 l) h₉,
              v (not-false l10 h₁₀),
            ),
          )

  -- and only then
  pub faultless_none : Faultless rows sender l → line_fault rows sender l ≡ 0
  unfolding line_fault line_rules rules_by first choose
  faultless_none f = rw (f.l1, f.l2, f.l3, f.l4, f.l5, f.l6, nationality_given l f.l7, f.l7, f.l8, f.l9, f.l10)

  -- so it is a record of the sender
  pub faultless_record : Faultless rows sender l → run digit 6 sender ≡ true → record_holds l ≡ true
  unfolding record_holds L2 L10
  faultless_record f d = rw (eqs_true (actor l) sender f.l2, d, f.l1, f.l5, f.l6, f.l7, f.l8, f.l9, and_left (vehicle_holds l) (weight_holds l) f.l10)
