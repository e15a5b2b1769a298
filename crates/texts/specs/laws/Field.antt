-- Laws of a field, for those who read one. Assumes nothing.
use Rattle.std.specs.Prelude.{◌≡◌, List, [], ◌∷◌, ◌++◌, ℕ, zero, suc, ◌+◌, ◌-◌, ◌≤◌, ◌<◌, length, take, drop}
use Rattle.std.proofs.Common.{arith, length-take, length-drop, take-add, take_all, take-take, drop-drop}
use Rattle.std.proofs.Math.Seq.{take-nil, drop-append-add}
use Rattle.std.proofs.lemmas.List.{take-append-le, drop-append-le}
use Rattle.texts.specs.Field.{field}

-- a field is no longer than its positions
pub field_most : (from to : ℕ) (text : List ℕ) → length (field from to text) ≤ to + 1 - from
unfolding field
field_most from to text = simp length-take (omega arith)

-- and as long where the text is long enough
pub field_length : (from to : ℕ) (text : List ℕ) → 1 ≤ from → to ≤ length text → length (field from to text) ≡ to + 1 - from
unfolding field
field_length from to text a h = simp (length-take, length-drop) (omega arith)

-- as its reader has it
pub field_short : (from to n : ℕ) (text f : List ℕ) → f ≡ field from to text → to + 1 - from ≤ n → length f ≤ n
field_short from to n text f e h = rw e (omega (arith, field_most from to text))

-- a field is its front and its rest
pub field_split : (from to mid : ℕ) (l : List ℕ) → 1 ≤ from → from ≤ mid → mid ≤ to → field from to l ≡ field from mid l ++ field (mid + 1) to l
unfolding field
field_split from to mid l a b c =
    let m : to + 1 - from ≡ (mid + 1 - from) + (to + 1 - (mid + 1)) = omega arith in
    let d : from - 1 + (mid + 1 - from) ≡ mid + 1 - 1 = omega arith in
    rw (m, take-add (mid + 1 - from) (to + 1 - (mid + 1)) (drop (from - 1) l), drop-drop (mid + 1 - from) (from - 1) l, d)

-- a field of all positions
pub field_all : (n : ℕ) (l : List ℕ) → length l ≤ n → field 1 n l ≡ l
unfolding field
field_all n l h = take_all (n + 1 - 1) l (omega arith)

-- ---- a field of a text in two parts

-- within the first
pub field_before : (from to : ℕ) (s t : List ℕ) → 1 ≤ from → from ≤ to → to ≤ length s → field from to (s ++ t) ≡ field from to s
unfolding field
field_before from to s t a b h =
    rw (drop-append-le (from - 1) s t (omega arith)) (take-append-le (to + 1 - from) (drop (from - 1) s) t (simp length-drop (omega arith)))

-- within the second, where the first has n bytes
pub field_behind : (from to n : ℕ) (s t : List ℕ) → length s ≡ n → n < from → field from to (s ++ t) ≡ field (from - n) (to - n) t
unfolding field
field_behind from to n s t e h =
    let d : from - 1 ≡ length s + (from - n - 1) = omega arith in
    let k : to + 1 - from ≡ to - n + 1 - (from - n) = omega arith in
    rw (d, drop-append-add s t (from - n - 1), k)

drop_take : (k n : ℕ) (s : List ℕ) → drop k (take n s) ≡ take (n - k) (drop k s)
drop_take zero n s = let e : n - 0 ≡ n = omega arith in rw e
drop_take (suc k) zero s = let e : 0 - suc k ≡ 0 = omega arith in rw e
drop_take (suc k) (suc n) [] = rw (take-nil (suc n - suc k))
drop_take (suc k) (suc n) (x ∷ s) = let e : suc n - suc k ≡ n - k = omega arith in rw e (drop_take k n s)

inside : (a b from to : ℕ) → 1 ≤ a → 1 ≤ from → from - 1 + b ≤ to → b + 1 - a ≤ to + 1 - from - (a - 1)
inside a b from to p q h = omega arith

-- a field of a field
pub field_field : (a b from to : ℕ) (text : List ℕ) → 1 ≤ a → 1 ≤ from → from - 1 + b ≤ to → field a b (field from to text) ≡ field (from - 1 + a) (from - 1 + b) text
unfolding field
field_field a b from to text p q h =
    let d : from - 1 + a - 1 ≡ from - 1 + (a - 1) = omega arith in
    let k : from - 1 + b + 1 - (from - 1 + a) ≡ b + 1 - a = omega arith in
    rw (d, k, drop_take (a - 1) (to + 1 - from) (drop (from - 1) text), drop-drop (a - 1) (from - 1) text)
    (take-take (b + 1 - a) (to + 1 - from - (a - 1)) (drop (from - 1 + (a - 1)) text) (inside a b from to p q h))
