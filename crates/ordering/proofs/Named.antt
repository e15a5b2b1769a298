-- What is found of two parts, and of a part in front, in the words that docs/PORT.md names. Assumes nothing.
use mathlib.Core.Path.{◌≡◌}
use mathlib.Core.Bool.{Bool, false, ◌&&◌}
use mathlib.Core.List.{List}
use Prim.Native.Nat.{ℕ, ◌+◌, ◌≤◌, ◌<◌}
use lib.ListN.{length, get_or}
use Rattle.theory.specs.Same.{eqs}
use Rattle.keys.specs.declared.Keys.{Keys}
use Rattle.keys.specs.Keys.{key_at}
use Rattle.sorting.specs.Counts.{counts}
use Rattle.ordering.specs.declared.Found.TheVariants as found
use Rattle.ordering.specs.laws.Again.{in_front}
use Rattle.ordering.proofs.Laws.{front_on}

module _ {A B : Type 0} where
  pub found_rising_lem : A → (found.Rising ≡ found.Rising → A) × (found.Rising ≡ found.Again → B)
  found_rising_lem a = (λ e. a, λ e. cc)

  pub found_again_lem : B → (found.Again ≡ found.Rising → A) × (found.Again ≡ found.Again → B)
  found_again_lem b = (λ e. cc, λ e. b)

module _ (keys : Keys) (b : List ℕ) (all : Bool) (vs : List ℕ) where
  -- q says whether the part at i counts, s whether its key x is t
  module _ (t : List ℕ) (i n : ℕ) (h : i < n) (l : n ≤ length vs) (x : List ℕ) (p : x ≡ key_at keys b i) (s : Bool) (e : s ≡ eqs t x) (q : Bool) (f : q ≡ counts all (get_or vs i 0)) where
    pub front_on_lem : in_front keys b all vs i t ≡ false → q && s ≡ false → in_front keys b all vs (i + 1) t ≡ false
    front_on_lem v r = front_on keys b all vs t n i h l (q && s) (rw (f, e, p)) v r
