-- Each part is asked. Assumes nothing.
use mathlib.Core.Path.{◌≡◌, refl, ap, ◌∙◌}
use mathlib.Core.Bool.{Bool}
use mathlib.Core.List.{List, [], ◌∷◌, map}
use Prim.Native.Nat.{ℕ, zero, suc, ◌≤◌}
use native.Mathlib.Omega.{arith}
use lib.ListN.{length, take, replicate}
use Rattle.theory.specs.laws.Parts.{length_chop}
use Rattle.theory.specs.Distinct.{distinct}
use Rattle.theory.specs.Keep.{onto}
use Rattle.theory.specs.Pick.{good, pick}
use Rattle.theory.specs.laws.Pick.{pick_take}
use Rattle.theory.specs.laws.Table.{length_cut}
use Rattle.keys.specs.declared.Keys.{Keys}
use Rattle.keys.specs.Keys.{parts_of, key_of}

pick_zeros : (m : ℕ) (xs : List (List ℕ)) → length xs ≤ m → pick good (replicate m 0) xs ≡ xs
unfolding pick good onto
pick_zeros zero [] h = refl
pick_zeros zero (x ∷ xs) h = absurd (omega arith)
pick_zeros (suc m) [] h = refl
pick_zeros (suc m) (x ∷ xs) h = ap (λ ys. x ∷ ys) (pick_zeros m xs (omega arith))

module _ (n m : ℕ) (h : n ≤ m) where
  pub all_asked : (b : List ℕ) (keys : Keys) (r : Bool) → r ≡ distinct (map (key_of keys) (pick good (take n (replicate m 0)) (parts_of keys (length (take {A = ℕ} n (replicate m 0))) b)))
      → r ≡ distinct (map (key_of keys) (parts_of keys n b))
  all_asked b keys r e =
      let l : length (parts_of keys n b) ≡ n = length_chop keys.width n b in
      e ∙ rw (length_cut n m 0 h, pick_take good n (replicate m 0) (parts_of keys n b) l, pick_zeros m (parts_of keys n b) (omega arith))
