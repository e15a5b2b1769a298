-- Where the rules of a record hold, each position from 2 to 127 holds what the table of `specs/laws/Coverage` admits there (T17). So no
-- byte of a record is a control character, and stop 32's byte test asks nothing more of it. Assumes nothing.
use Rattle.std.specs.Prelude.{◌≡◌, Bool, false, not, ◌&&◌, get_or}
use Rattle.std.proofs.Math.Path.{refl}
use Rattle.std.proofs.Common.{sym, ◌∙◌, true≢false, arith, leb-false}
use Rattle.std.proofs.Math.Bool.{true}
use mathlib.Core.List.{List, [], ◌∷◌}
use Prim.Native.Nat.{ℕ, ◌-◌, ◌≤◌, ◌<◌}
use Rattle.std.proofs.lemmas.Bool.{not-true}
use Rattle.theory.specs.laws.Truth.{and_left, and_right, joined, joined_each}
use Rattle.theory.specs.Each.{Each, none, more}
use Rattle.theory.specs.laws.Each.{each_both}
use Rattle.theory.specs.Every.{all, run}
use Rattle.theory.specs.laws.Every.{all_at}
use Rattle.theory.specs.Table.{table_from, table_of}
use Rattle.theory.specs.laws.Table.{entry, length_table}
use Rattle.sizes.specs.Sizes.{slot_end}
use Rattle.fields.specs.Field.{digit, plain}
use Rattle.fields.specs.laws.Spans.{Span, one_of, admitted, Held, spans_held, covered_at, spans_run}
use Rattle.plates.specs.Plate.{allowed}
use Rattle.columns.specs.Columns.{text, actor}
use Rattle.vehicles.specs.Vehicle.{vehicle_holds}
use Rattle.lines.specs.Rules.{L1, L5, L6, L7, L8, L9, record_holds}
use Rattle.lines.specs.laws.Coverage.{spans, spans_cover, spans_hold}

-- a record's actor has six digits
abbrev six_digits : List ℕ → Bool
six_digits l = run digit 6 (actor l)

module _ (l : List ℕ) where
  -- the rules of a record are those of the spans
  record_rules : record_holds l ≡ true → Each (λ r. r.rule l ≡ true) spans
  unfolding record_holds spans joined
  record_rules h = go (joined_each (six_digits l) (L1 l ∷ L5 l ∷ L6 l ∷ L7 l ∷ L8 l ∷ L9 l ∷ vehicle_holds l ∷ []) h)
    where
      go : Each (λ b. b ≡ true) (six_digits l ∷ L1 l ∷ L5 l ∷ L6 l ∷ L7 l ∷ L8 l ∷ L9 l ∷ vehicle_holds l ∷ []) → Each (λ r. r.rule l ≡ true) spans
      go (more a (more l1 (more l5 (more l6 (more l7 (more l8 (more l9 (more v none)))))))) =
          more a (more v (more l1 (more l6 (more l7 (more l7 (more v (more v (more v (more l8 (more l9
          (more v (more v (more v (more v (more v (more v (more v (more v (more v (more v none))))))))))))))))))))

  -- T17: so where the rules of a record hold, all positions do
  pub record_covered : record_holds l ≡ true → Each (Held l) spans
  record_covered h = spans_held (record_rules h) (spans_hold l)

  -- and the byte at each is one that the table admits there
  pub record_at : record_holds l ≡ true → (p : ℕ) → 2 ≤ p → p ≤ 127 → admitted spans p (get_or l (p - 1) 0) ≡ true
  record_at h p a b = covered_at l spans 2 127 p (omega arith) spans_cover (record_covered h) a b

-- no span admits a control character
clear : List Span → Bool
clear [] = true
clear (r ∷ rs) = all (λ b. not (r.admits b)) (table_of (λ b. b) 32) && clear rs

spans_clear : clear spans ≡ true
unfolding clear spans all table_of table_from one_of allowed
spans_clear = refl

spans_plain : (rs : List Span) → clear rs ≡ true → Each (λ r. (b : ℕ) → r.admits b ≡ true → plain b ≡ true) rs
unfolding clear
spans_plain [] c = none
spans_plain (r ∷ rs) c = more (λ b. go b (plain b) refl) (spans_plain rs (and_right (all refused codes) (clear rs) c))
  where
    refused : ℕ → Bool
    refused b = not (r.admits b)

    codes : List ℕ
    codes = table_of (λ b. b) 32

    go : (b : ℕ) (t : Bool) → plain b ≡ t → r.admits b ≡ true → t ≡ true
    go b true e h = refl
    go b false e h =
        let l : b < 32 = leb-false 32 b e in
        let k : not (r.admits b) ≡ true =
        rw (entry (λ x. x) 32 b l) at (all_at refused codes b (and_left (all refused codes) (clear rs) c) (rw (length_table (λ x. x) 32) l)) in
        absurd (true≢false (sym h ∙ not-true (r.admits b) k))

-- so no byte of a record is one
pub record_plain : (l : List ℕ) → record_holds l ≡ true → run plain 126 (text slot_end l) ≡ true
record_plain l h = spans_run l plain spans 2 127 (omega arith) spans_cover (each_both (record_covered l h) (spans_plain spans spans_clear))
