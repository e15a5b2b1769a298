-- What each record has after lines are applied: where a line names its PAN what the line's record has, else what it had.
-- Assumes nothing.
use Rattle.std.specs.Prelude.{◌≡◌, Bool, cond, List, [], ◌∷◌, map, ℕ}
use Rattle.std.proofs.Common.{sym, ◌∙◌, true≢false}
use Rattle.std.proofs.Math.Bool.{true, false}
use Rattle.theory.specs.Same.{mem}
use Rattle.theory.specs.Each.{Each, none, more}
use Rattle.theory.specs.laws.Each.{each_map, each_of_map, each_from}
use Rattle.theory.specs.laws.Keep.{each_sift}
use Rattle.theory.specs.Distinct.{distinct}
use Rattle.theory.specs.laws.Distinct.{distinct_sift, mem_at}
use Rattle.sizes.specs.Modes.{is_full}
use Rattle.columns.specs.Columns.{pan_of}
use Rattle.stamps.specs.Stamp.{stamp_in}
use Rattle.records.specs.Slot.{slot_of, storable}
use Rattle.records.specs.laws.Stamped.{slot_stamp}
use Rattle.holdings.specs.Holdings.{others, holdings}
use Rattle.holdings.proofs.Touched.{each_all}
use Rattle.upkeep.specs.laws.Makes.{made_pans}
use Rattle.applying.specs.Fit.{Fit}
use Rattle.applying.specs.laws.Prepared.{prepared, prepared_stored}

-- what each key has, each with such a key has
each_keyed : (q : List ℕ → Type 0) (key : List ℕ → List ℕ) (xs : List (List ℕ)) → Each q (map key xs) → Each (λ x. q (key x)) xs
each_keyed q key [] none = none
each_keyed q key (x ∷ xs) (more h hs) = more h (each_keyed q key xs hs)

module _ (mode : ℕ) (who : List ℕ) (R : List (List ℕ)) where
  -- what each record has, each that is left has
  each_prepared : {q : List ℕ → Type 0} → Each q R → Each q (prepared mode who R)
  unfolding prepared others
  each_prepared {q} hs = go (is_full mode)
    where
      go : (t : Bool) → Each q (cond t (others who R) R)
      go true = each_sift _ hs
      go false = hs

  distinct_prepared : distinct (map pan_of R) ≡ true → distinct (map pan_of (prepared mode who R)) ≡ true
  unfolding prepared others
  distinct_prepared d = go (is_full mode)
    where
      go : (t : Bool) → distinct (map pan_of (cond t (others who R) R)) ≡ true
      go true = distinct_sift pan_of _ R d
      go false = d

module _ (mode : ℕ) (who : List ℕ) (make : List ℕ → List ℕ) (slots : ℕ) (R ls : List (List ℕ)) (f : Fit mode who make slots R ls) (d : distinct (map pan_of R) ≡ true) where
  each_applied : (q : List ℕ → Type 0) → Each q (map make ls) → Each (λ y. mem (pan_of y) (map pan_of ls) ≡ false → q y) R → Each q (holdings mode who make R ls)
  each_applied q ks hs =
      rw (← prepared_stored mode who make slots R ls f)
      (each_all q (map make ls) (prepared mode who R) (distinct_prepared mode who R d) ks (rw (made_pans make f.made) (each_prepared mode who R hs)))

  each_named : Each (λ x. mem (pan_of x) (map pan_of ls) ≡ true) (map make ls)
  each_named = each_keyed (λ p. mem p (map pan_of ls) ≡ true) pan_of (map make ls) (rw (made_pans make f.made) (each_from (map pan_of ls) [] (mem_at (map pan_of ls))))

  -- a record whose PAN a line names has what the records of the lines have,
  pub touched : (q : List ℕ → Type 0) → Each q (map make ls) → Each (λ x. mem (pan_of x) (map pan_of ls) ≡ true → q x) (holdings mode who make R ls)
  touched q ks =
      each_applied (λ x. mem (pan_of x) (map pan_of ls) ≡ true → q x) (each_map (λ x k _. k) ks)
      (each_from R [] (λ i l n t. absurd (true≢false (sym t ∙ n))))

  -- and any other is one that was held
  pub untouched : Each (λ x. mem (pan_of x) (map pan_of ls) ≡ false → mem x R ≡ true) (holdings mode who make R ls)
  untouched =
      each_applied (λ x. mem (pan_of x) (map pan_of ls) ≡ false → mem x R ≡ true) (each_map (λ x t n. absurd (true≢false (sym t ∙ n))) each_named)
      (each_from R [] (λ i l _ _. mem_at R i l))

-- the stamp of each record whose PAN a line names is that under which the lines were stored
pub each_stamped : (mode : ℕ) (who s : List ℕ) (slots : ℕ) (R ls : List (List ℕ)) → Fit mode who (slot_of s) slots R ls → distinct (map pan_of R) ≡ true → Each (λ l. storable s l ≡ true) ls
    → Each (λ x. mem (pan_of x) (map pan_of ls) ≡ true → stamp_in x ≡ s) (holdings mode who (slot_of s) R ls)
each_stamped mode who s slots R ls f d k =
    touched mode who (slot_of s) slots R ls f d (λ x. stamp_in x ≡ s) (each_of_map (slot_of s) ls (each_map (λ l h. slot_stamp s l h) k))
