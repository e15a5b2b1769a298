-- Laws of parts of one width joined to a block, and of a block in parts. Assumes nothing.
use Rattle.std.specs.Prelude.{◌≡◌, refl, List, [], ◌∷◌, ◌++◌, ℕ, zero, suc, ◌+◌, ◌-◌, ◌*◌, ◌≤◌, ◌<◌, length, take, drop, get_or}
use Rattle.std.proofs.Common.{sym, ap, ◌∙◌, append_assoc, arith, zero-mul, length-append, length-drop, length-take-le, take_all, take-add, drop-drop, take_at, drop_at}
use Rattle.theory.specs.Parts.{chop, part_at}
use Rattle.theory.specs.laws.Parts.{parts_from, parts_start, parts_step, parts_end}
use Rattle.theory.specs.Each.{Each, none, more}
use Rattle.theory.specs.Join.{flat}

pub flat_append : (R S : List (List ℕ)) → flat (R ++ S) ≡ flat R ++ flat S
unfolding flat
flat_append [] S = refl
flat_append (r ∷ R) S = rw (flat_append R S) (sym (append_assoc r (flat R) (flat S)))

pub length_flat : (w : ℕ) {R : List (List ℕ)} → Each (λ r. length r ≡ w) R → length (flat R) ≡ length R * w
unfolding flat
length_flat w none = sym (zero-mul w)
length_flat w (more h hs) = let e = length_flat w hs in simp length-append (omega arith)

-- ---- there and back

pub chop_flat : (w : ℕ) {R : List (List ℕ)} → Each (λ r. length r ≡ w) R → chop w (length R) (flat R) ≡ R
unfolding chop flat
chop_flat w none = refl
chop_flat w (more h hs) = rw (take_at _ _ w h, drop_at _ _ w h, chop_flat w hs)

-- the parts are of the bytes in front
pub flat_parts : (w n : ℕ) (b : List ℕ) → flat (chop w n b) ≡ take (n * w) b
unfolding chop flat
flat_parts w zero b = rw (zero-mul w)
flat_parts w (suc n) b = let e : suc n * w ≡ w + n * w = omega arith in rw (e, take-add w (n * w) b, flat_parts w n (drop w b))

pub flat_chop : (w n : ℕ) (b : List ℕ) → length b ≡ n * w → flat (chop w n b) ≡ b
flat_chop w n b h = flat_parts w n b ∙ take_all (n * w) b (omega arith)

-- ---- the parts by their places

pub each_chop : (w n : ℕ) (b : List ℕ) → n * w ≤ length b → Each (λ r. length r ≡ w) (chop w n b)
unfolding chop
each_chop w zero b h = none
each_chop w (suc n) b h = more (length-take-le w b (omega arith)) (each_chop w n (drop w b) (simp length-drop (omega arith)))

-- the first n parts are those of the bytes in front
pub chop_take : (w n : ℕ) (b : List ℕ) → n * w ≤ length b → chop w n (take (n * w) b) ≡ chop w n b
unfolding chop
chop_take w zero b h = refl
chop_take w (suc n) b h =
    let e : suc n * w ≡ w + n * w = omega arith in
    let p : length (take w b) ≡ w = length-take-le w b (omega arith) in
    let q : n * w ≤ length (drop w b) = simp length-drop (omega arith) in
    rw (e, take-add w (n * w) b, take_at (take w b) (take (n * w) (drop w b)) w p, drop_at (take w b) (take (n * w) (drop w b)) w p, chop_take w n (drop w b) q)

next_part : (w n : ℕ) (b : List ℕ) → drop (suc n * w) b ≡ drop (n * w) (drop w b)
next_part w n b =
    let e : suc n * w ≡ w + n * w = omega arith in
    rw e (sym (drop-drop (n * w) w b))

pub get_d_chop : (w n : ℕ) (b : List ℕ) (i : ℕ) → i < n → get_or (chop w n b) i [] ≡ part_at w i b
unfolding chop part_at
get_d_chop w zero b i h = absurd (omega arith)
get_d_chop w (suc n) b zero h = rw (zero-mul w)
get_d_chop w (suc n) b (suc i) h = get_d_chop w n (drop w b) i (omega arith) ∙ rw (next_part w i b)

-- the first k parts and the rest
pub chop_split : (w n k : ℕ) (b : List ℕ) → k ≤ n → chop w n b ≡ chop w k b ++ parts_from w n k b
unfolding chop parts_from
chop_split w n zero b h = parts_start w n b
chop_split w zero (suc k) b h = absurd (omega arith)
chop_split w (suc n) (suc k) b h =
    let e : suc n - suc k ≡ n - k = omega arith in
    rw (e, next_part w k b) (ap (λ (R : List (List ℕ)). take w b ∷ R) (chop_split w n k (drop w b) (omega arith)))

-- one part more, at the end
pub chop_snoc : (w n : ℕ) (b : List ℕ) → chop w (n + 1) b ≡ chop w n b ++ (part_at w n b ∷ [])
chop_snoc w n b = chop_split w (n + 1) n b (omega arith) ∙ rw (parts_step w (n + 1) b n (omega arith), parts_end w (n + 1) b (n + 1) (omega arith))
