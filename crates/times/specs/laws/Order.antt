-- Which of two times is earlier: by their bytes and by the clock, which for real times is the same. Assumes nothing.
use Rattle.std.specs.Prelude.{◌≡◌, refl, Bool, true, false, ◌&&◌, ◌||◌, List, [], ◌∷◌, ℕ, zero, suc, ◌+◌, ◌*◌, ◌-◌, ◌<◌, ◌≤◌, eqb, ltb, take, drop}
use Rattle.std.proofs.Common.{sym, ap₂, ◌∙◌, true≢false, length-take, length-drop, drop_of_length-le, drop-drop, eqb-true, ltb-true, ltb-false, eq-eqb, lt-ltb, le-ltb}
use Rattle.std.proofs.lemmas.Bool.{false≢true}
use native.Mathlib.Omega.{arith}
use Rattle.std.proofs.Math.ListN.{length}
use Rattle.theory.specs.Text.{byte}
use Rattle.theory.specs.laws.Truth.{and_left, and_right, or_left, or_right}
use Rattle.theory.specs.Every.{all}
use Rattle.sizes.specs.Sizes.{time_length}
use Rattle.texts.specs.Field.{field}
use Rattle.fields.specs.Field.{digit}
use Rattle.numbers.specs.Number.{number, number_after}
use Rattle.times.specs.Time.{year, month, day, hour, minute, second, real_time}
use Rattle.calendar.specs.laws.Bounds.{within}
use Rattle.calendar.specs.laws.Order.{stamp, later}
use Rattle.times.specs.Seconds.{seconds}
use Rattle.times.specs.laws.Moment.{real_length, real_all, real_moment_lem}
use Rattle.times.specs.Order.{earlier}

-- two texts of which neither is earlier are one
neither : (a b : List ℕ) → earlier a b ≡ false → earlier b a ≡ false → a ≡ b
unfolding earlier
neither [] [] h k = refl
neither [] (y ∷ b) h k = absurd (true≢false h)
neither (x ∷ a) [] h k = absurd (true≢false k)
neither (x ∷ a) (y ∷ b) h k =
    let up : y ≤ x = ltb-false x y (or_left (ltb x y) (eqb x y && earlier a b) h) in
    let down : x ≤ y = ltb-false y x (or_left (ltb y x) (eqb y x && earlier b a) k) in
    let e : x ≡ y = omega arith in
    ap₂ ◌∷◌ e (neither a b
    (rw (eq-eqb x y e) at (or_right (ltb x y) (eqb x y && earlier a b) h))
    (rw (eq-eqb y x (sym e)) at (or_right (ltb y x) (eqb y x && earlier b a) k)))

-- what is later than a time is later than every time before it
pub since : (a b c : List ℕ) → earlier b a ≡ false → earlier b c ≡ true → earlier a c ≡ true
unfolding earlier
since a b [] h k = absurd (false≢true k)
since [] b (z ∷ c) h k = refl
since (x ∷ a) [] (z ∷ c) h k = absurd (true≢false h)
since (x ∷ a) (y ∷ b) (z ∷ c) h k = go (ltb y z) (ltb x y) refl refl k (since a b c)
  where
    up : x ≤ y
    up = ltb-false y x (or_left (ltb y x) (eqb y x && earlier b a) h)

    go : (s t : Bool) → ltb y z ≡ s → ltb x y ≡ t → s || eqb y z && earlier b c ≡ true → (earlier b a ≡ false → earlier b c ≡ true → earlier a c ≡ true)
        → ltb x z || eqb x z && earlier a c ≡ true
    go true t f l g ih = rw (lt-ltb x z (omega (arith, up, ltb-true y z f)))
    go false true f l g ih = rw (lt-ltb x z (omega (arith, ltb-true x y l, eqb-true y z (and_left (eqb y z) (earlier b c) g))))
    go false false f l g ih =
        let d : x ≡ y = omega (arith, up, ltb-false x y l) in
        let e : x ≡ z = d ∙ eqb-true y z (and_left (eqb y z) (earlier b c) g) in
        rw (le-ltb x z (omega (arith, e)), eq-eqb x z e)
        (ih (rw (eq-eqb y x (sym d)) at (or_right (ltb y x) (eqb y x && earlier b a) h)) (and_right (eqb y z) (earlier b c) g))

-- ---- digits that come earlier write a smaller number

-- two texts of digits of one length
data Digits : List ℕ → List ℕ → Type 0 where
  none : Digits [] []
  more : {x y : ℕ} {a b : List ℕ} → (byte "0" ≤ x) × (x ≤ byte "9") → (byte "0" ≤ y) × (y ≤ byte "9") → Digits a b → Digits (x ∷ a) (y ∷ b)

digits : (a b : List ℕ) → length a ≡ length b → all digit a ≡ true → all digit b ≡ true → Digits a b
unfolding all
digits [] [] l h k = none
digits [] (y ∷ b) l h k = absurd (omega arith)
digits (x ∷ a) [] l h k = absurd (omega arith)
digits (x ∷ a) (y ∷ b) l h k =
    more (within (byte "0") (byte "9") x (and_left (digit x) (all digit a) h)) (within (byte "0") (byte "9") y (and_left (digit y) (all digit b) k))
    (digits a b (omega arith) (and_right (digit x) (all digit a) h) (and_right (digit y) (all digit b) k))

-- digits behind a smaller number write a smaller number
number_less : {a b : List ℕ} → Digits a b → (m n : ℕ) → m < n → number_after m a < number_after n b
unfolding number_after
number_less none m n h = h
number_less (more {x} {y} dx dy p) m n h = number_less p (m * 10 + (x - byte "0")) (n * 10 + (y - byte "0")) (omega arith)

number_earlier : {a b : List ℕ} → Digits a b → (n : ℕ) → earlier a b ≡ true → number_after n a < number_after n b
unfolding earlier number_after
number_earlier none n e = absurd (false≢true e)
number_earlier (more {x} {y} {a} {b} dx dy p) n e = go (ltb x y) refl e (number_earlier p (n * 10 + (y - byte "0"))) where
  go : (t : Bool) → ltb x y ≡ t → t || eqb x y && earlier a b ≡ true
      → (earlier a b ≡ true → number_after (n * 10 + (y - byte "0")) a < number_after (n * 10 + (y - byte "0")) b) → number_after (n * 10 + (x - byte "0")) a < number_after (n * 10 + (y - byte "0")) b
  go true f g ih = number_less p (n * 10 + (x - byte "0")) (n * 10 + (y - byte "0")) (omega (arith, ltb-true x y f))
  go false f g ih = rw (eqb-true x y (and_left (eqb x y) (earlier a b) g)) (ih (and_right (eqb x y) (earlier a b) g))

-- ---- the number that all digits of a time write

number_split : (k n : ℕ) (s : List ℕ) → number_after n s ≡ number_after (number_after n (take k s)) (drop k s)
unfolding number_after
number_split zero n s = refl
number_split (suc k) n [] = refl
number_split (suc k) n (x ∷ s) = number_split k (n * 10 + (x - byte "0")) s

two_digits : (n : ℕ) (s : List ℕ) → length s ≡ 2 → number_after n s ≡ n * 100 + number s
unfolding number number_after
two_digits n [] h = absurd (omega arith)
two_digits n (x ∷ []) h = absurd (omega arith)
two_digits n (x ∷ y ∷ []) h = omega arith
two_digits n (x ∷ y ∷ z ∷ s) h = absurd (omega arith)

module _ (t : List ℕ) where
  -- two digits more, behind position k
  number_two : (k n : ℕ) → k + 2 ≤ length t → number_after n (drop k t) ≡ number_after (n * 100 + number (field (k + 1) (k + 2) t)) (drop (k + 2) t)
  unfolding field
  number_two k n h =
      let from : k + 1 - 1 ≡ k = omega arith in
      let wide : k + 2 + 1 - (k + 1) ≡ 2 = omega arith in
      number_split 2 n (drop k t)
      ∙ rw (drop-drop 2 k t, from, wide, two_digits n (take 2 (drop k t)) (simp (length-take, length-drop) (omega arith)))

  number_year : number t ≡ number_after (year t) (drop 4 t)
  unfolding number field
  number_year = number_split 4 0 t

  number_end : (n : ℕ) → length t ≡ time_length → number_after n (drop time_length t) ≡ n
  unfolding number_after
  number_end n h = let k : length t ≤ time_length = omega arith in rw (drop_of_length-le t k)

  number_stamp : length t ≡ time_length → number t ≡ stamp (year t) (month t) (day t) (hour t) (minute t) (second t)
  number_stamp h =
      number_year
      ∙ number_two 4 _ (omega arith)
      ∙ number_two 6 _ (omega arith)
      ∙ number_two 8 _ (omega arith)
      ∙ number_two 10 _ (omega arith)
      ∙ number_two 12 _ (omega arith)
      ∙ number_end _ h

-- ---- real times

seconds_earlier : (a b : List ℕ) → real_time a ≡ true → real_time b ≡ true → earlier a b ≡ true → seconds a < seconds b
unfolding seconds number
seconds_earlier a b ha hb e =
    later (real_moment_lem a ha) (real_moment_lem b hb)
    (rw (← number_stamp a (real_length a ha), ← number_stamp b (real_length b hb))
    (number_earlier (digits a b (real_length a ha ∙ sym (real_length b hb)) (real_all a ha) (real_all b hb)) 0 e))

-- for real times the order of the bytes is the order of the clock
pub byte_order : (a b : List ℕ) → real_time a ≡ true → real_time b ≡ true → earlier a b ≡ ltb (seconds a) (seconds b)
byte_order a b ha hb = go (earlier a b) refl (earlier b a) refl where
  go : (u : Bool) → earlier a b ≡ u → (v : Bool) → earlier b a ≡ v → u ≡ ltb (seconds a) (seconds b)
  go true e v f = sym (lt-ltb (seconds a) (seconds b) (seconds_earlier a b ha hb e))
  go false e true f = sym (le-ltb (seconds a) (seconds b) (omega (arith, seconds_earlier b a hb ha f)))
  go false e false f = sym (le-ltb (seconds a) (seconds b) (rw (neither a b e f) (omega arith)))

-- and no two have the same seconds
pub seconds_one : (a b : List ℕ) → real_time a ≡ true → real_time b ≡ true → seconds a ≡ seconds b → a ≡ b
seconds_one a b ha hb h =
    neither a b
    (byte_order a b ha hb ∙ le-ltb (seconds a) (seconds b) (omega arith))
    (byte_order b a hb ha ∙ le-ltb (seconds b) (seconds a) (omega arith))
