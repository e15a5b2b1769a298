-- A number written in enough digits and read again is the number. Assumes nothing.
use Rattle.std.specs.Prelude.{◌≡◌, refl, true, List, [], ◌∷◌, ◌++◌, ℕ, zero, suc, ◌+◌, ◌*◌, ◌-◌, ◌/◌, ◌%◌, ◌^◌, ◌≤◌, ◌<◌, leb, length}
use Rattle.std.proofs.Common.{sym, ap, ◌∙◌, pow-suc, arith, length-append, le-leb}
use Rattle.std.proofs.lemmas.List.{length-replicate}
use Rattle.theory.specs.Text.{byte}
use Rattle.theory.specs.laws.Truth.{and_both}
use Rattle.theory.specs.Every.{all, run}
use Rattle.theory.specs.laws.Every.{all_run, all_append}
use Rattle.fields.specs.Field.{digit}
use Rattle.numbers.specs.Number.{number, number_after, decimal, zeros}

-- so many digits
pub length_decimal : (k v : ℕ) → length (decimal k v) ≡ k
unfolding decimal
length_decimal zero v = refl
length_decimal (suc k) v = simp length-append (omega (arith, length_decimal k (v / 10)))

digit_is : (v : ℕ) → digit (byte "0" + v % 10) ≡ true
digit_is v = and_both (leb (byte "0") (byte "0" + v % 10)) (leb (byte "0" + v % 10) (byte "9")) (le-leb (byte "0") (byte "0" + v % 10) (omega arith)) (le-leb (byte "0" + v % 10) (byte "9") (omega arith))

-- and each is one
decimal_all : (k v : ℕ) → all digit (decimal k v) ≡ true
unfolding decimal all
decimal_all zero v = refl
decimal_all (suc k) v = all_append digit (decimal k (v / 10)) ((byte "0" + v % 10) ∷ []) ∙ rw (decimal_all k (v / 10), digit_is v)

pub decimal_digits : (k v : ℕ) → run digit k (decimal k v) ≡ true
decimal_digits k v = all_run digit k (decimal k v) (length_decimal k v) (decimal_all k v)

-- a digit behind others
number_behind : (n : ℕ) (s : List ℕ) (x : ℕ) → number_after n (s ++ x ∷ []) ≡ number_after n s * 10 + (x - byte "0")
unfolding number_after
number_behind n [] x = refl
number_behind n (y ∷ s) x = number_behind (n * 10 + (y - byte "0")) s x

-- written and read again
pub number_decimal : (k v : ℕ) → v < 10 ^ k → number (decimal k v) ≡ v
unfolding number decimal number_after
number_decimal zero v h = omega arith
number_decimal (suc k) v h =
    let p : 10 ^ suc k ≡ 10 ^ k * 10 = pow-suc 10 k in
    number_behind 0 (decimal k (v / 10)) (byte "0" + v % 10) ∙ rw (number_decimal k (v / 10) (omega arith)) (omega arith)

-- no two numbers that fit have the same digits
pub decimal_one : (k v w : ℕ) → v < 10 ^ k → w < 10 ^ k → decimal k v ≡ decimal k w → v ≡ w
decimal_one k v w h j e = sym (number_decimal k v h) ∙ ap number e ∙ number_decimal k w j

-- the widths in use: a count, and the number of a sequence
pub number_15 : (v : ℕ) → v ≤ 999999999999999 → number (decimal 15 v) ≡ v
number_15 v h = number_decimal 15 v (omega arith)

pub number_2 : (v : ℕ) → v ≤ 99 → number (decimal 2 v) ≡ v
number_2 v h = number_decimal 2 v (omega arith)

-- ---- zeros

pub length_zeros : (n : ℕ) → length (zeros n) ≡ n
unfolding zeros
length_zeros n = length-replicate n (byte "0")

zeros_behind : (n : ℕ) → zeros n ++ byte "0" ∷ [] ≡ byte "0" ∷ zeros n
unfolding zeros
zeros_behind zero = refl
zeros_behind (suc n) = ap (λ (s : List ℕ). byte "0" ∷ s) (zeros_behind n)

-- they are the digits of 0
pub decimal_zeros : (n : ℕ) → decimal n 0 ≡ zeros n
unfolding decimal zeros
decimal_zeros zero = refl
decimal_zeros (suc n) = ap (λ (s : List ℕ). s ++ byte "0" ∷ []) (decimal_zeros n) ∙ zeros_behind n
