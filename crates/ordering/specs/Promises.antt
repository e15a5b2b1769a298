-- What each public function of this crate promises. Assumes nothing.
use Rattle.std.specs.Prelude.{◌≡◌, Bool, List, map, ℕ, length}
use Rattle.theory.specs.Below.{below}
use Rattle.theory.specs.Pick.{good, pick}
use Rattle.theory.specs.Distinct.{distinct}
use Rattle.theory.specs.Firsts.{firsts}
use Rattle.keys.specs.declared.Keys.{Keys}
use Rattle.keys.specs.Keys.{parts_of, key_of}
use Rattle.ordering.specs.Ranks.{ranked}

-- no two parts marked 0 have one key
abbrev pub AreApart : List ℕ → Keys → List ℕ → Bool → Type 0
AreApart b keys marks r = r ≡ distinct (map (key_of keys) (pick good marks (parts_of keys (length marks) b)))

-- each part marked 0 is the first that has its key
abbrev pub AreFirsts : List ℕ → Keys → List ℕ → Bool → Type 0
AreFirsts b keys marks r = r ≡ firsts (map (key_of keys) (parts_of keys (length marks) b)) marks

-- each part that counts stands at its rank
abbrev pub Covers : List ℕ → Bool → List ℕ → List ℕ → ℕ → Bool → Type 0
Covers marks all order ranks m r = r ≡ below (ranked all marks order ranks m) (length marks)
