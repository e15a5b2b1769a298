-- The number of slots used when lines have been applied, which stands on `proofs/Storing`. Assumes nothing.
use Rattle.std.specs.Prelude.{◌≡◌, Bool, cond, length}
use Rattle.std.proofs.Math.Path.{refl}
use Rattle.std.proofs.Common.{sym, ap₂, ◌∙◌, length-append}
use Rattle.std.proofs.Math.Bool.{true, false}
use mathlib.Core.List.{List, ◌∷◌, ◌++◌, map}
use Prim.Native.Nat.{ℕ, ◌+◌}
use Rattle.std.proofs.lemmas.List.{length-map}
use Rattle.theory.specs.Each.{Each, none, more}
use Rattle.theory.specs.Keep.{sift}
use Rattle.theory.specs.laws.Keep.{length_onto}
use Rattle.theory.specs.Distinct.{distinct}
use Rattle.columns.specs.Columns.{pan_of}
use Rattle.holdings.specs.Holdings.{stored_all, others, replaced_all, holdings}
use Rattle.sizes.specs.Modes.{is_full}
use Rattle.holdings.specs.Room.{is_new, used_after}
use Rattle.holdings.proofs.Storing.{length_all}

module _ (make : List ℕ → List ℕ) where
  record_pans : {ls : List (List ℕ)} → Each (λ l. pan_of (make l) ≡ pan_of l) ls → map pan_of (map make ls) ≡ map pan_of ls
  record_pans none = refl
  record_pans (more h hs) = ap₂ ◌∷◌ h (record_pans hs)

  new_records : (R : List (List ℕ)) {ls : List (List ℕ)} → Each (λ l. pan_of (make l) ≡ pan_of l) ls
      → length (sift (is_new R) (map make ls)) ≡ length (sift (is_new R) ls)
  unfolding sift
  new_records R none = refl
  new_records R (more {x = l} {xs = ls} h hs) =
      length_onto (is_new R (make l)) (make l) (sift (is_new R) (map make ls))
      ∙ rw (h, new_records R hs) (sym (length_onto (is_new R l) l (sift (is_new R) ls)))

  -- it is the number of records that follow
  pub used_after_lem : (mode : ℕ) (who : List ℕ) (R ls : List (List ℕ)) → Each (λ l. pan_of (make l) ≡ pan_of l) ls → distinct (map pan_of ls) ≡ true
      → used_after mode who R ls ≡ length (holdings mode who make R ls)
  unfolding used_after holdings replaced_all
  used_after_lem mode who R ls p d = go (is_full mode)
    where
      xs : List (List ℕ)
      xs = map make ls

      go : (b : Bool) → cond b (length (others who R) + length ls) (length R + length (sift (is_new R) ls)) ≡ length (cond b (others who R ++ xs) (stored_all R xs))
      go true = sym (length-append (others who R) xs ∙ rw (length-map ls make))
      go false = sym (length_all xs R (rw (record_pans p) d) ∙ rw (new_records R p))
