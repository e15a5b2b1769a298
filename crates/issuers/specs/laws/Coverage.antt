-- Each position of an issuer row from 1 to 24 is fixed by its form, beside T17. Assumes nothing.
use Rattle.std.specs.Prelude.{◌≡◌, refl, true, length, drop, get_or}
use Rattle.std.proofs.Common.{◌∙◌, arith, length-drop, leb-true}
use Rattle.std.proofs.Math.Bool.{Bool}
use mathlib.Core.List.{List, [], ◌∷◌}
use Prim.Native.Nat.{ℕ, ◌+◌, ◌-◌, ◌≤◌}
use Rattle.std.proofs.Math.Dec.{leb, ltb}
use Rattle.std.proofs.Math.ListN.{take, length-take}
use Rattle.std.proofs.Math.Seq.{take-take}
use Rattle.theory.specs.laws.Truth.{joined, joined_each}
use Rattle.theory.specs.Each.{Each, none, more}
use Rattle.theory.specs.Every.{all, run, leading}
use Rattle.theory.specs.laws.Every.{run_length, all_run, all_take, all_drop, leading_all}
use Rattle.sizes.specs.Sizes.{row_length}
use Rattle.texts.specs.Field.{field}
use Rattle.texts.specs.laws.Field.{field_length, field_field}
use Rattle.fields.specs.Field.{digit}
use Rattle.fields.specs.laws.Spans.{Span, span, or_blank, cover, admitted, Held, covered_at}
use Rattle.characters.specs.Characters.{filled}
use Rattle.characters.specs.laws.Filled.{filled_all}
use Rattle.issuers.specs.Rows.{bin, length_of_bin_id, length_of_pan, row_actor, row_holds}

unfoldable pub row_spans : List Span
row_spans =
    span 1 6 row_holds digit
    ∷ span 7 14 row_holds (or_blank digit)
    ∷ span 15 16 row_holds digit
    ∷ span 17 18 row_holds digit
    ∷ span 19 24 row_holds digit
    ∷ []

pub row_cover : cover 1 row_length row_spans ≡ true
unfolding cover row_spans
row_cover = refl

all_field : (p : ℕ → Bool) (a b : ℕ) (s : List ℕ) → all p s ≡ true → all p (field a b s) ≡ true
unfolding field
all_field p a b s h = all_take p (b + 1 - a) (drop (a - 1) s) (all_drop p (a - 1) s h)

module _ (r : List ℕ) where
  -- six digits in front
  bin_digits : leb 6 (leading digit (bin r)) ≡ true → 24 ≤ length r → run digit 6 (field 1 6 r) ≡ true
  unfolding field
  bin_digits h l =
      let k : ℕ = leading digit (bin r) in
      let e : take 6 (take k (bin r)) ≡ take 6 r = take-take 6 k (bin r) (leb-true 6 k h) ∙ take-take 6 14 r (omega arith) in
      all_run digit 6 (take 6 r) (simp length-take (omega arith)) (rw e at (all_take digit 6 (take k (bin r)) (leading_all digit (bin r))))

  -- digits or blanks behind them
  bin_rest : filled digit (bin r) ≡ true → 24 ≤ length r → run (or_blank digit) 8 (field 7 14 r) ≡ true
  bin_rest h l =
      let a : all (or_blank digit) (field 7 14 (bin r)) ≡ true = all_field (or_blank digit) 7 14 (bin r) (filled_all digit (bin r) h) in
      all_run (or_blank digit) 8 (field 7 14 r) (field_length 7 14 r (omega arith) (omega arith)) (rw (field_field 7 14 1 14 r (omega arith) (omega arith) (omega arith)) at a)

  -- a row with an actor is long enough
  row_long : run digit 6 (row_actor r) ≡ true → 24 ≤ length r
  unfolding field
  row_long h = omega (arith, simp (length-take, length-drop) at (run_length digit 6 (take 6 (drop 18 r)) h))

module _ (r : List ℕ) (form : row_holds r ≡ true) where
  pub row_covered : Each (Held r) row_spans
  unfolding row_holds row_spans joined
  row_covered = go (joined_each (leb 6 (leading digit (bin r))) behind form)
    where
      behind : List Bool
      behind =
          filled digit (bin r) ∷ run digit 2 (field 15 16 r) ∷ leb 6 (length_of_bin_id r) ∷ leb (length_of_bin_id r) 14 ∷ leb (length_of_bin_id r) (leading digit (bin r))
          ∷ run digit 2 (field 17 18 r) ∷ ltb (length_of_bin_id r) (length_of_pan r) ∷ leb (length_of_pan r) 19 ∷ run digit 6 (row_actor r) ∷ []

      go : Each (λ b. b ≡ true) (leb 6 (leading digit (bin r)) ∷ behind) → Each (Held r) row_spans
      go (more six (more f (more i (more a (more b (more c (more n (more d (more e (more t none)))))))))) =
          let l : 24 ≤ length r = row_long r t in
          more (bin_digits r six l) (more (bin_rest r f l) (more i (more n (more t none))))

  -- the byte at each is one that the table admits there
  pub row_at : (p : ℕ) → 1 ≤ p → p ≤ row_length → admitted row_spans p (get_or r (p - 1) 0) ≡ true
  row_at p a b = covered_at r row_spans 1 row_length p (omega arith) row_cover row_covered a b
