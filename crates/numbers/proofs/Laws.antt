-- Laws of the definitions of specs/, in the form that the loops use. Assumes nothing.
use mathlib.Core.Path.{◌≡◌, refl, sym, ap, ◌∙◌}
use mathlib.Core.List.{List, ◌++◌}
use Prim.Native.Nat.{ℕ, suc, ◌<◌, ◌≤◌, ◌+◌, ◌-◌, ◌*◌, ◌/◌, ◌%◌, ◌^◌}
use native.Mathlib.Nat.{pow-suc, pow-le-pow_right}
use native.Mathlib.Numerals.{add-one}
use native.Mathlib.Omega.{arith}
use lib.ListN.{length, take, drop, get_or, set, length-set, length-take, length-drop, drop_of_length-le}
use lib.Seq.{drop-cons, drop-set-lt, get_or-set_same, append_snoc}
use Rattle.theory.specs.Text.{byte}
use Rattle.writing.specs.Put.{put_field}
use Rattle.writing.specs.laws.Put.{put_lent}
use Rattle.numbers.specs.Number.{number, number_after, decimal}
use Rattle.numbers.specs.laws.Number.{length_decimal}

-- ---- a number, digit by digit

pub record Numbering (f : List ℕ) (n i : ℕ) : Type 0 where
  pub within : i ≤ length f
  pub small : n + 23 ≤ 23 * 10 ^ i
  pub whole : number f ≡ number_after n (drop i f)

pub number_start : (f : List ℕ) → Numbering f 0 0
unfolding number
number_start f = record { within = omega arith; small = omega arith; whole = refl }

-- a number of so few digits fits
pub number_room : (f : List ℕ) (n i : ℕ) → Numbering f n i → i < length f → length f ≤ 15 → n * 10 + 207 < 2 ^ 63
number_room f n i v h k =
    let l : i ≤ 14 = omega arith in
    let t : 10 ^ i ≤ 10 ^ 14 = pow-le-pow_right (omega arith) l in
    omega (arith, v.small)

pub number_turn : (f : List ℕ) (n i v : ℕ) → Numbering f n i → i < length f → (v ≡ get_or f i 0 - byte "0") × (v ≤ 207) → Numbering f (n * 10 + v) (i + 1)
unfolding number_after
number_turn f n i v w h k =
    record {
      within = omega arith;
      small = rw (add-one, pow-suc) (omega (arith, w.small));
      whole = w.whole ∙ rw (add-one, drop-cons f i 0, k.0);
    }

pub number_end : (f : List ℕ) (n i : ℕ) → Numbering f n i → length f ≤ i → n ≡ number f
unfolding number_after
number_end f n i w h = sym (w.whole ∙ rw (drop_of_length-le f))

-- ---- a number's digits, from the right

-- those from the place i on are written, and m is left
pub record Writing (v n : ℕ) (to : List ℕ) (i m : ℕ) : Type 0 where
  pub within : i ≤ n
  pub size : length to ≡ n
  pub whole : decimal n v ≡ decimal i m ++ drop i to

-- one digit, at the place j
digit_step : (to : List ℕ) (j m : ℕ) → j < length to → decimal (suc j) m ++ drop (suc j) to ≡ decimal j (m / 10) ++ drop j (set to j (byte "0" + m % 10))
unfolding decimal
digit_step to j m h =
    let d : ℕ = byte "0" + m % 10 in
    let l : j < length (set to j d) = rw length-set h in
    append_snoc (decimal j (m / 10)) d (drop (suc j) to) ∙ rw (drop-cons (set to j d) j 0, get_or-set_same to j d, drop-set-lt (suc j) to j d (omega arith))

pub writing_turn : (v n : ℕ) (to : List ℕ) (i m : ℕ) → Writing v n to i m → 0 < i → Writing v n (set to (i - 1) (byte "0" + m % 10)) (i - 1) (m / 10)
writing_turn v n to i m w h =
    let e : i ≡ suc (i - 1) = omega arith in
    let l : i - 1 < length to = omega (arith, w.within, w.size) in
    record {
      within = omega (arith, w.within);
      size = rw length-set w.size;
      whole = w.whole ∙ ap (λ (k : ℕ). decimal k m ++ drop k to) e ∙ digit_step to (i - 1) m l;
    }

pub writing_end : (v n : ℕ) (to : List ℕ) (i m : ℕ) → Writing v n to i m → i ≤ 0 → to ≡ decimal n v
unfolding decimal
writing_end v n to i m w h =
    let e : i ≡ 0 = omega arith in
    sym (w.whole ∙ ap (λ (k : ℕ). decimal k m ++ drop k to) e)

-- a field of so many digits, lent and returned; g is what came back
pub digits_lent : (from width v : ℕ) (g text : List ℕ) → g ≡ decimal (length (take (from - 1 + width - (from - 1)) (drop (from - 1) text))) v
    → from - 1 + width ≤ length text → take (from - 1) text ++ (g ++ drop (from - 1 + width - (from - 1)) (drop (from - 1) text)) ≡ put_field from (decimal width v) text
digits_lent from width v g text e h =
    let l : length (take (from - 1 + width - (from - 1)) (drop (from - 1) text)) ≡ width = simp (length-take, length-drop) (omega arith) in
    put_lent from width (decimal width v) g text (e ∙ rw l) (length_decimal width v)
