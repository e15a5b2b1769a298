-- The parts of a block sorted by their keys: o has a place number for each rank. Assumes nothing.
use Rattle.std.specs.Prelude.{ℕ, ◌-◌, ◌<◌, ◌≡◌, true, List, length, get_or}
use Rattle.keys.specs.declared.Keys.{Keys}
use Rattle.keys.specs.Keys.{key_at}
use Rattle.keys.specs.Less.{less}
use Rattle.finding.specs.Places.{first_for}

module _ (keys : Keys) (b : List ℕ) where
  -- the part c comes behind a: its key is higher, or the same, and its place is the later one
  pub data Follows (a c : ℕ) : Type 0 where
    higher : less (key_at keys b a) (key_at keys b c) ≡ true → Follows a c
    same : key_at keys b a ≡ key_at keys b c → a < c → Follows a c

module _ (keys : Keys) (b o : List ℕ) (n : ℕ) where
  -- up to the rank i the numbers are places of n parts, and each part comes behind the one ahead of it
  pub record Rises (i : ℕ) : Type 0 where
    pub within : (j : ℕ) → j < i → get_or o j 0 < n
    pub next : (j : ℕ) → 0 < j → j < i → Follows keys b (get_or o (j - 1) 0) (get_or o j 0)

  -- all do, and each of n parts stands at its rank
  pub record Sorted : Type 0 where
    pub rises : Rises n
    pub ranks : List ℕ
    pub ranked : (a : ℕ) → a < n → (get_or ranks a 0 < n) × (get_or o (get_or ranks a 0) 0 ≡ a)

-- of the parts ahead of the rank i, `found` tells the first that has the key of each
pub record Led (keys : Keys) (n : ℕ) (b o : List ℕ) (i : ℕ) (found : List ℕ) : Type 0 where
  pub size : length found ≡ n
  pub told : (j : ℕ) → j < i → get_or found (get_or o j 0) 0 ≡ first_for keys n b (get_or o j 0)
