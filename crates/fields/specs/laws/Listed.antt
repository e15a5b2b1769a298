-- An entry of a table has the entries' width, and its bytes are of the table. Assumes nothing.
use Rattle.std.specs.Prelude.{◌≡◌, Bool, ◌||◌, List, length, take, drop}
use Rattle.std.proofs.Math.Path.{refl}
use Rattle.std.proofs.Math.Bool.{true, false}
use Rattle.std.proofs.lemmas.Bool.{false≢true}
use Prim.Native.Nat.{ℕ, zero, suc, ◌*◌, ◌/◌, ◌≤◌}
use Rattle.std.proofs.Common.{arith, length-take-le}
use Rattle.std.proofs.Math.Nat.{div-add-mod'}
use Rattle.std.proofs.Math.ListN.{length-drop}
use Rattle.theory.specs.Same.{eqs, mem}
use Rattle.theory.specs.laws.Same.{eqs_true}
use Rattle.theory.specs.Every.{all, run}
use Rattle.theory.specs.laws.Every.{all_run, all_take, all_drop}
use Rattle.theory.specs.Parts.{chop}
use Rattle.texts.specs.Field.{listed}

module _ (p : ℕ → Bool) where
  entry_run : (w n : ℕ) (table f : List ℕ) → n * w ≤ length table → all p table ≡ true → mem f (chop w n table) ≡ true → run p w f ≡ true
  unfolding mem chop
  entry_run w zero table f l h m = absurd (false≢true m)
  entry_run w (suc n) table f l h m =
      go (eqs f (take w table)) refl m (λ k. entry_run w n (drop w table) f (rw length-drop (omega arith)) (all_drop p w table h) k)
    where
      go : (b : Bool) → eqs f (take w table) ≡ b → b || mem f (chop w n (drop w table)) ≡ true
          → (mem f (chop w n (drop w table)) ≡ true → run p w f ≡ true) → run p w f ≡ true
      go true e m ih = rw (eqs_true f (take w table) e) (all_run p w (take w table) (length-take-le w table (omega arith)) (all_take p w table h))
      go false e m ih = ih m

  pub listed_run : (w : ℕ) (table f : List ℕ) → all p table ≡ true → listed w table f ≡ true → run p w f ≡ true
  unfolding listed
  listed_run w table f h m = entry_run w (length table / w) table f (omega (arith, div-add-mod' (length table) w)) h m
