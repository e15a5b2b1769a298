-- Records marked by a test, and what is left of them: a register without those that are marked. Assumes nothing.
use Rattle.std.specs.Prelude.{◌≡◌, Bool, ℕ}
use Rattle.std.proofs.Math.Path.{refl}
use Rattle.std.proofs.Math.Bool.{true, false, not}
use mathlib.Core.List.{List, [], ◌∷◌, map}
use Rattle.theory.specs.Count.{bump}
use Rattle.theory.specs.Keep.{onto, sift}
use Rattle.theory.specs.Pick.{good, pick}
use Rattle.theory.specs.Join.{flat}
use Rattle.theory.specs.Pad.{pad}
use Rattle.sizes.specs.Sizes.{slot_length}
use Rattle.upkeep.specs.Holds.{Holds}
use Rattle.upkeep.specs.laws.Stays.{as_bytes, closed}

module _ (p : List ℕ → Bool) where
  -- 1 marks a record for which the test holds
  unfoldable pub mark_by : List ℕ → ℕ
  mark_by r = bump (p r) 0

  -- those without a mark are the others
  pub pick_marks : (R : List (List ℕ)) → pick good (map mark_by R) R ≡ sift (λ r. not (p r)) R
  unfolding pick sift mark_by bump good
  pick_marks [] = refl
  pick_marks (r ∷ R) = rw (pick_marks R) (go (p r) refl)
    where
      go : (s : Bool) → p r ≡ s → onto (good (mark_by r)) r (sift (λ x. not (p x)) R) ≡ onto (not s) r (sift (λ x. not (p x)) R)
      go true e = rw e
      go false e = rw e

  pub marked_yes : (r : List ℕ) → p r ≡ true → 1 ≡ mark_by r
  unfolding mark_by bump
  marked_yes r h = rw h

  pub marked_no : (r : List ℕ) → p r ≡ false → 0 ≡ mark_by r
  unfolding mark_by bump
  marked_no r h = rw h

  -- a register without them is in order
  pub holds_without : (n : ℕ) (R : List (List ℕ)) (b : List ℕ) → Holds n R b → Holds n (sift (λ r. not (p r)) R) (flat (pad slot_length n (sift (λ r. not (p r)) R)))
  holds_without n R b h = rw (← pick_marks R) (as_bytes n _ _ (rw (h.many, h.held) at (closed b h.order (map mark_by R))))
