-- Nobody has to believe the codes: a tariff allows one above 0 exactly when every weight that it covers is of the
-- tariff's class. Assumes nothing.
use Rattle.std.specs.Prelude.{◌≡◌, Bool, ◌&&◌, ◌||◌, ℕ, ◌+◌, ◌*◌, ◌<◌, ◌≤◌}
use Rattle.std.proofs.Math.Path.{refl}
use Rattle.std.proofs.Common.{sym, ◌∙◌}
use Rattle.std.proofs.Math.Bool.{true, false, not}
use mathlib.Core.List.{List, [], ◌∷◌}
use native.Mathlib.Omega.{arith}
use Rattle.std.proofs.Math.Dec.{eqb, leb}
use borrow.Author.Tests.{eq-eqb, ne_eqb, eqb-true, leb-true, le-leb}
use Rattle.theory.specs.Each.{Each, none, more}
use Rattle.theory.specs.laws.Truth.{and_split, and_both}
use Rattle.weights.specs.Weights.{Limit, limits, meets, meets_each, missing, allows}
use Rattle.weights.specs.Kilograms.{InClass, CoversClass}

module _ (t w : ℕ) where
  -- what a limit asks
  abbrev Meets : Limit → Type 0
  Meets r = t ≡ r.tariff → (r.least ≤ w) × (w ≤ r.most)

  asked : (r : Limit) → meets r t w ≡ true → Meets r
  unfolding meets
  asked r h e =
      let k : meets r t w ≡ leb r.least w && leb w r.most = rw (eq-eqb t r.tariff e) in
      let s = and_split (leb r.least w) (leb w r.most) (sym k ∙ h) in
      (leb-true r.least w s.0, leb-true w r.most s.1)

  met : (r : Limit) → Meets r → meets r t w ≡ true
  unfolding meets
  met r h = go (eqb t r.tariff) refl
    where
      go : (b : Bool) → eqb t r.tariff ≡ b → not b || (leb r.least w && leb w r.most) ≡ true
      go false e = refl
      go true e =
          let s = h (eqb-true t r.tariff e) in
          and_both (leb r.least w) (leb w r.most) (le-leb r.least w s.0) (le-leb w r.most s.1)

  each_asked : (rs : List Limit) → meets_each rs t w ≡ true → Each Meets rs
  unfolding meets_each
  each_asked [] h = none
  each_asked (r ∷ rs) h = let s = and_split (meets r t w) (meets_each rs t w) h in more (asked r s.0) (each_asked rs s.1)

  each_met : (rs : List Limit) → Each Meets rs → meets_each rs t w ≡ true
  unfolding meets_each
  each_met [] none = refl
  each_met (r ∷ rs) (more h hs) = and_both (meets r t w) (meets_each rs t w) (met r h) (each_met rs hs)

module _ (t w : ℕ) (given : 0 < w) where
  judged : allows t w ≡ meets_each limits t w
  unfolding allows missing
  judged = rw (ne_eqb w 0 (λ e. absurd (omega arith)))

  pub allowed_class : allows t w ≡ true → CoversClass t w
  unfolding limits
  allowed_class h kg c = go (each_asked t w limits (sym judged ∙ h))
    where
      go : Each (Meets t w) limits → InClass t kg
      go (more a (more b (more d (more e (more f (more g none)))))) =
          record {
            of_12 = λ k. omega (arith, (a k).1, c.most);
            of_22 = λ k. omega (arith, (b k).1, c.most);
            of_31 = λ k. omega (arith, (d k).0, c.above);
            of_32 = λ k. omega (arith, (e k).0, c.above);
            of_41 = λ k. (omega (arith, (f k).0, c.above), omega (arith, (f k).1, c.most));
            of_51 = λ k. omega (arith, (g k).0, c.above);
          }

  -- a code has four digits
  pub class_allowed : w ≤ 9999 → CoversClass t w → allows t w ≡ true
  unfolding limits
  class_allowed four h =
      let first : InClass t (10 * w + 1) = h (10 * w + 1) (record { above = omega arith; most = omega arith }) in
      let last : InClass t (10 * w + 10) = h (10 * w + 10) (record { above = omega arith; most = omega arith }) in
      judged
      ∙ each_met t w limits
      (more (λ k. (omega arith, omega (arith, last.of_12 k)))
      (more (λ k. (omega arith, omega (arith, last.of_22 k)))
      (more (λ k. (omega (arith, first.of_31 k), four))
      (more (λ k. (omega (arith, first.of_32 k), four))
      (more (λ k. (omega (arith, (first.of_41 k).0), omega (arith, (last.of_41 k).1)))
      (more (λ k. (omega (arith, first.of_51 k), four)) none))))))
