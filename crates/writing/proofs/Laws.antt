-- A text copied: the first i bytes are. Assumes nothing.
use mathlib.Core.Path.{◌≡◌, refl, sym, ◌∙◌}
use mathlib.Core.List.{List}
use Prim.Native.Nat.{ℕ, ◌<◌, ◌≤◌, ◌+◌}
use native.Mathlib.Numerals.{add-one}
use lib.ListN.{length, take, get_or, set}
use lib.Seq.{take_all, take-suc, take-suc-set}

unfoldable pub Copied : List ℕ → List ℕ → ℕ → Type 0
Copied to from i = take i to ≡ take i from

module _ (to from : List ℕ) where
  pub copied_start : Copied to from 0
  unfolding Copied
  copied_start = refl

  module _ (i : ℕ) (v : Copied to from i) where
    pub copied_turn : i < length to → i < length from → Copied (set to i (get_or from i 0)) from (i + 1)
    unfolding Copied
    copied_turn h k = rw (add-one, take-suc-set to i (get_or from i 0), take-suc from i 0, v)

    pub copied_end : length to ≤ i → length from ≤ i → to ≡ from
    unfolding Copied
    copied_end h k = sym (take_all i to h) ∙ v ∙ take_all i from k
