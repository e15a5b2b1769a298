-- Texts one behind another, each of a known width, and where each stands. Assumes nothing.
use Rattle.std.specs.Prelude.{◌≡◌, refl, List, [], ◌∷◌, ◌++◌, ℕ, zero, suc, ◌+◌, ◌-◌, ◌<◌, length, get_or}
use Rattle.std.proofs.Common.{◌∙◌, arith, length-append, take_at}
use Rattle.theory.specs.Join.{flat}
use Rattle.texts.specs.Field.{field}
use Rattle.texts.specs.laws.Field.{field_behind}

-- how many bytes the first i widths make
abbrev pub behind : ℕ → List ℕ → ℕ
behind zero ws = 0
behind (suc i) [] = 0
behind (suc i) (w ∷ ws) = w + behind i ws

-- each text has its width
pub data Wide : List ℕ → List (List ℕ) → Type 0 where
  no_more : Wide [] []
  then : {w : ℕ} {ws : List ℕ} {p : List ℕ} {ps : List (List ℕ)} → length p ≡ w → Wide ws ps → Wide (w ∷ ws) (p ∷ ps)

-- the first of two
first_piece : (w from to : ℕ) (p t : List ℕ) → length p ≡ w → 1 ≡ from → w ≡ to → field from to (p ++ t) ≡ p
unfolding field
first_piece w from to p t e a b = let k : to + 1 - from ≡ w = omega arith in rw (k, ← a) (take_at p t w e)

-- the text at place i stands at its positions
pub piece : (i from to : ℕ) {ws : List ℕ} {ps : List (List ℕ)} → Wide ws ps → i < length ws → behind i ws + 1 ≡ from → behind (i + 1) ws ≡ to
    → field from to (flat ps) ≡ get_or ps i []
unfolding flat
piece i from to no_more h a b = absurd (omega arith)
piece zero from to (then {w} {ws} {p} {ps} e es) h a b = first_piece w from to p (flat ps) e (omega arith) (omega arith)
piece (suc i) from to (then {w} {ws} {p} {ps} e es) h a b =
    let n : suc i + 1 ≡ suc (i + 1) = omega arith in
    let c : w + behind (i + 1) ws ≡ to = rw n at b in
    field_behind from to w p (flat ps) e (omega arith) ∙ piece i (from - w) (to - w) es (omega arith) (omega arith) (omega arith)

-- how long they are together
pub length_pieces : {ws : List ℕ} {ps : List (List ℕ)} → Wide ws ps → length (flat ps) ≡ behind (length ws) ws
unfolding flat
length_pieces no_more = refl
length_pieces (then h hs) = let e = length_pieces hs in simp length-append (omega arith)

-- more of them behind
pub wide_append : {ws vs : List ℕ} {ps qs : List (List ℕ)} → Wide ws ps → Wide vs qs → Wide (ws ++ vs) (ps ++ qs)
wide_append no_more v = v
wide_append (then h hs) v = then h (wide_append hs v)
