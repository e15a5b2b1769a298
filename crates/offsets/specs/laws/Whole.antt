-- Whole numbers as differences of natural ones. Assumes nothing.
use Rattle.std.specs.Prelude.{◌≡◌, refl, Bool, true, false, ℕ, zero, suc, ◌+◌, ◌*◌, ◌-◌, ◌≤◌, ◌<◌, ltb, pos, negsuc, neg_ℤ, ◌+ℤ◌, ◌*ℤ◌}
use Rattle.std.proofs.Common.{sym, ap, ◌∙◌, arith, ltb-true, ltb-false, lt-ltb, le-ltb}
use Rattle.std.proofs.Math.IntN.{sub_ℕ}

pub sub_above : (a b : ℕ) → b ≤ a → sub_ℕ a b ≡ pos (a - b)
sub_above a b h = rw (le-ltb a b h)

pub sub_below : (a b : ℕ) → a < b → sub_ℕ a b ≡ negsuc (b - suc a)
sub_below a b h = rw (lt-ltb a b h)

-- as far apart is as much
sub_same : (a b c d : ℕ) → a + d ≡ c + b → sub_ℕ a b ≡ sub_ℕ c d
sub_same a b c d e = go (ltb a b) refl
  where
    go : (t : Bool) → ltb a b ≡ t → sub_ℕ a b ≡ sub_ℕ c d
    go true f = let l : a < b = ltb-true a b f in sub_below a b l ∙ ap negsuc (omega arith) ∙ sym (sub_below c d (omega arith))
    go false f = let l : b ≤ a = ltb-false a b f in sub_above a b l ∙ ap pos (omega arith) ∙ sym (sub_above c d (omega arith))

pub sub_neg : (a b : ℕ) → neg_ℤ (sub_ℕ a b) ≡ sub_ℕ b a
sub_neg a b = go (ltb a b) refl (ltb b a) refl
  where
    negative : (n : ℕ) → 1 ≤ n → neg_ℤ (pos n) ≡ negsuc (n - 1)
    negative zero h = absurd (omega arith)
    negative (suc n) h = ap negsuc (omega arith)

    go : (t : Bool) → ltb a b ≡ t → (u : Bool) → ltb b a ≡ u → neg_ℤ (sub_ℕ a b) ≡ sub_ℕ b a
    go true f u g =
        let l : a < b = ltb-true a b f in
        ap neg_ℤ (sub_below a b l) ∙ ap pos (omega arith) ∙ sym (sub_above b a (omega arith))
    go false f true g =
        let l : b < a = ltb-true b a g in
        ap neg_ℤ (sub_above a b (omega arith)) ∙ negative (a - b) (omega arith) ∙ ap negsuc (omega arith) ∙ sym (sub_below b a l)
    go false f false g =
        let l : a ≡ b = omega (arith, ltb-false a b f, ltb-false b a g) in
        let z : a - b ≡ 0 = omega arith in
        let y : b - a ≡ 0 = omega arith in
        ap neg_ℤ (sub_above a b (omega arith) ∙ ap pos z) ∙ sym (sub_above b a (omega arith) ∙ ap pos y)

-- n seconds and a minutes less b minutes
pub sub_minutes : (n a b : ℕ) → pos n +ℤ sub_ℕ a b *ℤ pos 60 ≡ sub_ℕ (n + a * 60) (b * 60)
sub_minutes n a b = go (ltb a b) refl
  where
    go : (t : Bool) → ltb a b ≡ t → pos n +ℤ sub_ℕ a b *ℤ pos 60 ≡ sub_ℕ (n + a * 60) (b * 60)
    go true f =
        let l : a < b = ltb-true a b f in
        let e : suc (b - suc a) * 60 ≡ suc ((b - a) * 60 - 1) = omega arith in
        rw (sub_below a b l, e) (sub_same n (suc ((b - a) * 60 - 1)) (n + a * 60) (b * 60) (omega arith))
    go false f =
        let l : b ≤ a = ltb-false a b f in
        rw (sub_above a b l) (ap pos (omega arith) ∙ sym (sub_above (n + a * 60) (b * 60) (omega arith)))
