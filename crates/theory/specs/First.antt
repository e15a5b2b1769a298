-- Rules with numbers, in an order: the number of the first whose test holds, and 0 where none does.
-- The stops and the rules of a line are lists of this kind. Assumes nothing.
use Rattle.std.specs.Prelude.{◌≡◌, Bool, true, false, List, [], ◌∷◌, ◌++◌, ℕ}

pub record Rule : Type 0 where
  pub number : ℕ
  pub fits : Bool

infix 18 ◌if◌
abbrev pub ◌if◌ : ℕ → Bool → Rule
n if b = record { number = n; fits = b }

-- n where the test holds, else m
unfoldable pub choose : Bool → ℕ → ℕ → ℕ
choose true n m = n
choose false n m = m

unfoldable pub first : List Rule → ℕ
first [] = 0
first (r ∷ rs) = choose r.fits r.number (first rs)

-- none of them fits
pub data None : List Rule → Type 0 where
  none : None []
  more : {r : Rule} {rs : List Rule} → r.fits ≡ false → None rs → None (r ∷ rs)

-- where the number is k, which is not 0, a rule with this number fits, and none in front of it
pub record Fits (k : ℕ) (rs : List Rule) : Type 0 where
  pub front : List Rule
  pub rule : Rule
  pub behind : List Rule
  pub split : rs ≡ front ++ rule ∷ behind
  pub passed : None front
  pub fits : rule.fits ≡ true
  pub named : rule.number ≡ k

-- what the number n says that is answered by the rules rs: where it is not 0, a rule with this number fits and none in front of it;
-- it is 0 exactly when none fits
pub record Decided (rs : List Rule) (n : ℕ) : Type 0 where
  pub by : (n ≡ 0 → ⊥) → Fits n rs
  pub clear : n ≡ 0 → None rs
  pub by_none : None rs → n ≡ 0
