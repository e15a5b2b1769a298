-- A line turned into the bytes that it stands for, and texts laid one behind the other, as the loops have them. Assumes nothing.
use mathlib.Core.Path.{◌≡◌, refl, sym, ap, ◌∙◌}
use mathlib.Core.Bool.{Bool, true, false}
use mathlib.Core.List.{List, [], ◌∷◌, map, map-append}
use Prim.Native.Nat.{ℕ, suc, ◌<◌, ◌≤◌, ◌+◌, ◌-◌, ◌*◌}
use native.Mathlib.Numerals.{add-one}
use native.Mathlib.Omega.{arith}
use lib.Dec.{leb}
use lib.ListN.{length, take, drop, get_or, set, length-append, length-take, length-drop, drop_of_length-le}
use lib.Seq.{take_all, take-suc, take-suc-set, drop-cons, drop-set-lt}
use borrow.Author.Tests.{eq-eqb, ne_eqb, leb-true}
use Rattle.theory.specs.laws.Truth.{and_left, and_right}
use Rattle.theory.specs.Parts.{part_at}
use Rattle.theory.specs.laws.Parts.{part_fits}
use Rattle.texts.specs.Field.{field}
use Rattle.numbers.specs.Number.{number}
use Rattle.writing.specs.Put.{put_field}
use Rattle.vectors.specs.Vectors.{text_most, other, marked, fits, put_text, changed, kept, sample, laid}

-- what stands behind the first i bytes of two texts is one: so is the next byte, and so is what stands behind it
next_same : (a b : List ℕ) (i : ℕ) → drop i a ≡ drop i b → i < length a → i < length b → get_or a i 0 ≡ get_or b i 0
next_same a b i e h k = let p = drop-cons a i 0 h in let q = drop-cons b i 0 k in cc

rest_same : (a b : List ℕ) (i x : ℕ) → drop i a ≡ drop i b → i < length a → i < length b → drop (i + 1) (set a i x) ≡ drop (i + 1) b
rest_same a b i x e h k =
    let p = drop-cons a i 0 h in
    let q = drop-cons b i 0 k in
    let r : drop (suc i) a ≡ drop (suc i) b = cc in
    rw (add-one, drop-set-lt (suc i) a i x (omega arith)) r

-- ---- a line marked: the first i bytes are, and those behind them stand as they were

unfoldable pub Marking : List ℕ → List ℕ → ℕ → Type 0
Marking line₀ line i = (take i line ≡ map marked (take i line₀)) × (drop i line ≡ drop i line₀)

module _ (line₀ : List ℕ) where
  pub marking_start : Marking line₀ line₀ 0
  unfolding Marking
  marking_start = (refl, refl)

  module _ (line : List ℕ) (i : ℕ) (v : Marking line₀ line i) where
    pub marking_turn : (b : ℕ) → b ≡ marked (get_or line i 0) → i < length line → i < length line₀ → Marking line₀ (set line i b) (i + 1)
    unfolding Marking
    marking_turn b e h k =
        let g : get_or line i 0 ≡ get_or line₀ i 0 = next_same line line₀ i v.1 h k in
        (rw (add-one, take-suc-set line i b, take-suc line₀ i 0, map-append marked (take i line₀) (get_or line₀ i 0 ∷ []), v.0, e, g), rest_same line line₀ i b v.1 h k)

    pub marking_end : length line ≤ i → length line₀ ≤ i → line ≡ map marked line₀
    unfolding Marking
    marking_end h k = sym (take_all i line h) ∙ v.0 ∙ ap (map marked) (take_all i line₀ k)

-- ---- what a byte stands for

-- ---- the byte at which a text ends

pub other_end : (end b : ℕ) → b ≡ end → false ≡ other end b
other_end end b h = rw (eq-eqb b end h)

pub other_on : (end b : ℕ) → (b ≡ end → ⊥) → true ≡ other end b
other_on end b h = rw (ne_eqb b end h)

-- ---- where a text fits

pub fits_within : (from n room : ℕ) → fits from n room ≡ true → (1 ≤ from) × (from - 1 + n ≤ room)
unfolding fits
fits_within from n room h =
    (leb-true 1 from (and_left (leb 1 from) (leb (from - 1 + n) room) h), leb-true (from - 1 + n) room (and_right (leb 1 from) (leb (from - 1 + n) room) h))

-- what was put, or stayed
pub text_put : (from : ℕ) (t b b' : List ℕ) (r : Bool) → r ≡ fits from (length t) (length b) → r ≡ true → b' ≡ put_field from t b → b' ≡ put_text from t b
unfolding put_text
text_put from t b b' r e h k = k ∙ rw (← e, h)

pub text_stays : (from : ℕ) (t b : List ℕ) (r : Bool) → r ≡ fits from (length t) (length b) → r ≡ false → b ≡ put_text from t b
unfolding put_text
text_stays from t b r e h = rw (← e, h)

pub changed_by : (n : ℕ) (d t f b b' : List ℕ) → d ≡ field 1 3 f → n ≡ number d → t ≡ field 5 65536 f → b' ≡ put_text n t b → b' ≡ changed f b
unfolding changed
changed_by n d t f b b' e k h p = p ∙ rw (k, e, h)

-- ---- a text with its letter

pub kept_by : (letter : ℕ) (t f b b' : List ℕ) → letter ≡ get_or f 0 0 → t ≡ field 3 (text_most + 2) f → b' ≡ put_text (letter * text_most + 1) t b → b' ≡ kept f b
unfolding kept
kept_by letter t f b b' e h p = p ∙ rw (e, h)

-- ---- texts laid one behind the other: those of the letters from i on are left

unfoldable pub Laying : ℕ → List ℕ → ℕ → List ℕ → List ℕ → ℕ → ℕ → List ℕ → Type 0
Laying width samples from letters to₀ i at to = (at ≡ from + i * width) × (laid width samples from letters to₀ ≡ laid width samples at (drop i letters) to)

module _ (width : ℕ) (samples : List ℕ) (from : ℕ) (letters to₀ : List ℕ) where
  pub laying_start : Laying width samples from letters to₀ 0 from to₀
  unfolding Laying
  laying_start = (omega arith, refl)

  module _ (i at : ℕ) (to : List ℕ) (v : Laying width samples from letters to₀ i at to) where
    pub laying_turn : i < length letters → (to' : List ℕ) → to' ≡ put_field at (sample width samples (get_or letters i 0)) to → Laying width samples from letters to₀ (i + 1) (at + width) to'
    unfolding Laying laid
    laying_turn h to' e = (omega (arith, v.0), v.1 ∙ rw (drop-cons letters i 0 h, e, add-one i))

    pub laying_end : length letters ≤ i → to ≡ laid width samples from letters to₀
    unfolding Laying laid
    laying_end h = sym (v.1 ∙ rw (drop_of_length-le letters))

    -- the bytes of the next text lie within those of all
    pub laying_fits : 1 ≤ from → (m : ℕ) → from - 1 + length letters * width ≤ m → i < length letters → (1 ≤ at) × (at - 1 + width ≤ m)
    unfolding Laying
    laying_fits o m h l =
        let k : i * width + width ≤ length letters * width = part_fits width (length letters) i (length letters * width) (omega arith) l in
        (omega (arith, v.0), omega (arith, v.0))

-- one text, as the code lends it
pub lay_lent : (from width c : ℕ) (samples text f to to' : List ℕ) → text ≡ part_at text_most c samples → f ≡ take (width - 0) text → to' ≡ put_field from f to → to' ≡ put_field from (sample width samples c) to
unfolding sample
lay_lent from width c samples text f to to' e k h = let z : width - 0 ≡ width = omega arith in h ∙ rw (k, e, z)

-- no byte more, no byte less
pub length_laid : (from width c : ℕ) (samples to to' : List ℕ) → 1 ≤ from → from - 1 + width ≤ length to → to' ≡ put_field from (sample width samples c) to → length to' ≡ length to
unfolding put_field sample
length_laid from width c samples to to' o h e = ap length e ∙ simp (length-append, length-take, length-drop) (omega arith)
