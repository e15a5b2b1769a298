-- A table is what a rule gives at each place: where antt computes that the two are the same list, the rule is
-- proved at every entry at once. Assumes nothing.
use Rattle.std.specs.Prelude.{◌≡◌, List, ◌∷◌, length, take, get_or, replicate}
use Rattle.std.proofs.Math.Path.{refl, ap}
use Rattle.std.proofs.Common.{sym, ◌∙◌, suc-add, arith, ext_get_or}
use Prim.Native.Nat.{ℕ, zero, suc, ◌+◌, ◌*◌, ◌≤◌, ◌<◌}
use Rattle.std.proofs.Math.Nat.{add-zero, zero-add, add-suc}
use Rattle.std.proofs.lemmas.List.{length-replicate}
use Rattle.theory.specs.Table.{table_from, table_of}

module _ (f : ℕ → ℕ) where
  entry_from : (n i k : ℕ) → k < n → get_or (table_from f i n) k 0 ≡ f (i + k)
  unfolding table_from
  entry_from zero i k h = absurd (omega arith)
  entry_from (suc n) i zero h = rw add-zero
  entry_from (suc n) i (suc k) h = entry_from n (suc i) k (omega arith) ∙ rw (suc-add i k, add-suc i k)

  pub entry : (n k : ℕ) → k < n → get_or (table_of f n) k 0 ≡ f k
  unfolding table_of
  entry n k h = entry_from n 0 k h ∙ rw zero-add

  length_from : (n i : ℕ) → length (table_from f i n) ≡ n
  unfolding table_from
  length_from zero i = refl
  length_from (suc n) i = ap suc (length_from n (suc i))

  pub length_table : (n : ℕ) → length (table_of f n) ≡ n
  unfolding table_of
  length_table n = length_from n 0

  -- a block of n entries that are each as the rule gives it
  pub is_table : (n : ℕ) (b : List ℕ) → length b ≡ n → ((i : ℕ) → i < n → get_or b i 0 ≡ f i) → b ≡ table_of f n
  is_table n b e h =
      ext_get_or 0 b (table_of f n) (e ∙ sym (length_table n)) (λ i l. let k : i < n = rw (← e) l in h i k ∙ sym (entry n i k))

-- rules that give the same at each place give the same table
pub tables_same : (f g : ℕ → ℕ) (n : ℕ) → ((i : ℕ) → i < n → f i ≡ g i) → table_of f n ≡ table_of g n
tables_same f g n h = is_table g n (table_of f n) (length_table f n) (λ i l. entry f n i l ∙ h i l)

-- ---- a block of m equal entries, cut to n

pub cut_is : (n m x : ℕ) → n ≤ m → take n (replicate m x) ≡ replicate n x
cut_is zero m x h = refl
cut_is (suc n) zero x h = absurd (omega arith)
cut_is (suc n) (suc m) x h = ap (λ (s : List ℕ). x ∷ s) (cut_is n m x (omega arith))

pub length_cut : (n m x : ℕ) → n ≤ m → length (take n (replicate m x)) ≡ n
length_cut n m x h = rw (cut_is n m x h) (length-replicate n x)

pub cut_fits : (n m x w k : ℕ) → n ≤ m → n * w ≤ k → length (take n (replicate m x)) * w ≤ k
cut_fits n m x w k h l = rw (length_cut n m x h) l
