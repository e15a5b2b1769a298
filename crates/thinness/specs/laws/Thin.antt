-- Which full lists are too thin, and which lists are not. Assumes nothing.
use Rattle.std.specs.Prelude.{◌≡◌, true, false, List, ℕ, ◌*◌, ◌≤◌, ◌<◌, ltb}
use borrow.Author.Tests.{lt-ltb, ltb-true, ltb-false, eqb-true, eq-eqb, ne_eqb}
use Rattle.theory.specs.laws.Truth.{and_left, and_right}
use Rattle.sizes.specs.Sizes.{full}
use Rattle.sizes.specs.Modes.{is_full}
use Rattle.slots.specs.Search.{count_of}
use Rattle.thinness.specs.Thin.{thin}

module _ (mode : ℕ) (who : List ℕ) (R : List (List ℕ)) (t : ℕ) where
  -- an incremental list never is
  pub incremental_thick : (mode ≡ full → ⊥) → thin mode who R t ≡ false
  unfolding thin is_full
  incremental_thick n = rw (ne_eqb mode full n)

  -- a full one is exactly when twice its taken lines are fewer than the records held
  pub full_thin : mode ≡ full → thin mode who R t ≡ ltb (2 * t) (count_of who R)
  unfolding thin is_full
  full_thin m = rw (eq-eqb mode full m)

  pub thin_so : mode ≡ full → 2 * t < count_of who R → thin mode who R t ≡ true
  unfolding thin is_full
  thin_so m l = rw (eq-eqb mode full m, lt-ltb (2 * t) (count_of who R) l)

  pub thin_only : thin mode who R t ≡ true → (mode ≡ full) × (2 * t < count_of who R)
  unfolding thin is_full
  thin_only e = (eqb-true mode full (and_left (is_full mode) (ltb (2 * t) (count_of who R)) e), ltb-true (2 * t) (count_of who R) (and_right (is_full mode) (ltb (2 * t) (count_of who R)) e))

  -- where it is not, at least half as many as are held were taken
  pub thick_half : mode ≡ full → thin mode who R t ≡ false → count_of who R ≤ 2 * t
  unfolding thin is_full
  thick_half m e = ltb-false (2 * t) (count_of who R) (rw (eq-eqb mode full m) at e)
