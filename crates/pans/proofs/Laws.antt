-- The table's rule, and laws of the Luhn sum in the form that its loop uses. Assumes nothing.
use mathlib.Core.Path.{◌≡◌, ◌∙◌}
use mathlib.Core.Bool.{true}
use mathlib.Core.List.{List}
use Prim.Native.Nat.{ℕ, suc, ◌<◌, ◌≤◌, ◌+◌, ◌-◌, ◌%◌}
use native.Mathlib.Numerals.{add-one}
use native.Mathlib.Omega.{arith}
use lib.Dec.{leb}
use lib.ListN.{length, drop, get_or, length-drop, drop_of_length-le}
use lib.Seq.{drop-cons}
use borrow.Author.Tests.{leb-true, eq-eqb, ne_eqb}
use Rattle.theory.specs.Text.{byte}
use Rattle.theory.specs.laws.Truth.{and_left, and_right}
use Rattle.theory.specs.Every.{all}
use Rattle.theory.specs.laws.Every.{all_at}
use Rattle.theory.specs.laws.Table.{entry}
use Rattle.fields.specs.Field.{digit}
use Rattle.pans.specs.Pan.{doubled, addend, luhn_sum}
use Rattle.pans.specs.laws.Pan.{doubled_table}

-- a digit's byte lies between '0' and '9'
pub digits_at : (s : List ℕ) (i : ℕ) → all digit s ≡ true → i < length s → (byte "0" ≤ get_or s i 0) × (get_or s i 0 ≤ byte "9")
digits_at s i h l =
    let b : ℕ = get_or s i 0 in
    let e : digit b ≡ true = all_at digit s i h l in
    (leb-true (byte "0") b (and_left (leb (byte "0") b) (leb b (byte "9")) e), leb-true b (byte "9") (and_right (leb (byte "0") b) (leb b (byte "9")) e))

-- the rule of the table at each of its ten entries
pub listed : (t : List ℕ) → t ≡ doubled_table → (d : ℕ) → d < 10 → get_or t d 0 ≡ doubled d
unfolding doubled_table
listed t e d h = rw e (entry doubled 10 d h)

pub doubled_small : (d : ℕ) → d < 10 → doubled d < 10
unfolding doubled
doubled_small d h = omega arith

pub addend_doubled : (d k : ℕ) → k % 2 ≡ 1 → addend d k ≡ doubled d
unfolding addend
addend_doubled d k h = rw (eq-eqb (k % 2) 1 h)

pub addend_plain : (d k : ℕ) → (k % 2 ≡ 1 → ⊥) → addend d k ≡ d
unfolding addend
addend_plain d k h = rw (ne_eqb (k % 2) 1 h)

-- the last digit of the whole sum is that of what is kept and what is left
pub record Summing (s : List ℕ) (sum i : ℕ) : Type 0 where
  pub last : sum < 10
  pub whole : (sum + luhn_sum (drop i s)) % 10 ≡ luhn_sum s % 10

pub sum_turn : (s : List ℕ) (sum i c : ℕ) → Summing s sum i → i < length s → c ≡ addend (get_or s i 0 - byte "0") (length s - 1 - i)
    → Summing s ((sum + c) % 10) (i + 1)
unfolding luhn_sum
sum_turn s sum i c v h e =
    let k : length (drop (suc i) s) ≡ length s - 1 - i = length-drop (suc i) s ∙ omega arith in
    let t : luhn_sum (drop i s) ≡ c + luhn_sum (drop (i + 1) s) = rw (add-one, drop-cons s i 0, k, ← e) in
    record { last = omega arith; whole = omega (arith, v.whole) }

pub sum_end : (s : List ℕ) (sum i : ℕ) → Summing s sum i → length s ≤ i → sum ≡ luhn_sum s % 10
unfolding luhn_sum
sum_end s sum i v h =
    let t : luhn_sum (drop i s) ≡ 0 = rw (drop_of_length-le s) in
    omega (arith, v.whole)
