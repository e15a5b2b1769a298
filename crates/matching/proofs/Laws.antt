-- What the functions of this crate cite. Assumes nothing.
use mathlib.Core.Path.{◌≡◌, refl, sym, ap, ◌∙◌}
use mathlib.Core.Bool.{Bool, true, false, ◌&&◌, true≢false}
use mathlib.Core.List.{List, [], map}
use Prim.Native.Nat.{ℕ, zero, suc, ◌+◌, ◌-◌, ◌≤◌, ◌<◌}
use native.Mathlib.Omega.{arith}
use lib.Dec.{eqb}
use borrow.Author.Tests.{eq-eqb, ne_eqb}
use lib.ListN.{length, get_or, set, length-map, get_or-map}
use lib.Seq.{take-nil}
use Rattle.theory.specs.Same.{eqs}
use Rattle.theory.specs.laws.Same.{eqs_true, eq_eqs}
use Rattle.theory.specs.Count.{bump}
use Rattle.theory.specs.laws.Count.{bump_le}
use Rattle.theory.specs.Parts.{chop, part_at}
use Rattle.theory.specs.laws.Parts.{length_chop}
use Rattle.theory.specs.laws.Join.{get_d_chop}
use Rattle.theory.specs.Pick.{good, pick}
use Rattle.theory.specs.Tally.{tally}
use Rattle.texts.specs.declared.parts.Parts.{Parts}
use Rattle.texts.specs.Field.{field}
use Rattle.texts.specs.laws.Field.{field_field}
use Rattle.columns.specs.Columns.{text, pan_of}
use Rattle.hgv.specs.Layout.{width_of, lines_in, lines_of}
use Rattle.hgv.specs.Promises.{Lines}
use Rattle.hgv.specs.laws.Layout.{IsWidth, length_lines}
use Rattle.pairing.specs.Backwards.{is_last, lower, waiting, paired}
use Rattle.pairing.specs.laws.Backwards.{pairs_up, length_paired}
use Rattle.theory.specs.Firsts.{firsts}
use Rattle.pairing.specs.laws.Pairing.{length_marks}
use Rattle.pairing.specs.laws.Turns.{Pairs, pairs_turn, lower_hit, lower_miss, last_some}
use Rattle.receipts.specs.Receipt.{texts_of, copies_of, marks_of, taken_by, copies_hold}
use Rattle.answers.specs.Promises.{Lines as Answered}
use Rattle.answers.specs.laws.Layout.{lines_are}
use Rattle.matching.specs.laws.Texts.{texts_in, all_of, part_texts}
use Rattle.matching.specs.laws.Matching.{copies_pair, pair_marks, taken_count}

-- ---- texts by their places

pub length_texts : (u w n : ℕ) (b : List ℕ) → length (texts_in u w n b) ≡ n
unfolding texts_in
length_texts u w n b = length-map (chop w n b) (text u) ∙ length_chop w n b

text_none : (u : ℕ) → text u [] ≡ []
unfolding field
text_none u = take-nil (u - 1 + 1 - 2)

text_at_lem : (u w n : ℕ) (b : List ℕ) (i : ℕ) → i < n → get_or (texts_in u w n b) i [] ≡ text u (part_at w i b)
unfolding texts_in
text_at_lem u w n b i h =
    ap (λ (d : List ℕ). get_or (map (text u) (chop w n b)) i d) (sym (text_none u)) ∙ get_or-map (text u) (chop w n b) i [] ∙ rw (get_d_chop w n b i h)

-- lines with two PANs have two texts
pub other_pan : (w : ℕ) → IsWidth w → (a b p : List ℕ) → p ≡ pan_of b → (r : Bool) → r ≡ eqs (pan_of a) p → r ≡ false → eqs (text w a) (text w b) ≡ false
other_pan w wide a b p q r e h = go (eqs (text w a) (text w b)) refl
  where
    pan : (l : List ℕ) → field 13 31 (text w l) ≡ pan_of l
    pan l = field_field 13 31 2 (w - 1) l (omega arith) (omega arith) (omega (arith, wide.0))

    go : (c : Bool) → eqs (text w a) (text w b) ≡ c → c ≡ false
    go true u =
        let s : pan_of a ≡ pan_of b = sym (pan a) ∙ rw (eqs_true (text w a) (text w b) u) (pan b) in
        absurd (true≢false (sym (eq_eqs (pan_of a) p (s ∙ sym q)) ∙ (sym e ∙ h)))
    go false u = refl

-- ---- the last copy

-- x is the copy before the place k
pub last_is : (u w n k : ℕ) (b t : List ℕ) → (k ≡ 0 → ⊥) → k ≤ n → (x : List ℕ) → x ≡ part_at w (k - 1) b → (r : Bool) → r ≡ eqs t (text u x) → r ≡ is_last (texts_in u w n b) k t
last_is u w n k b t h m x p r e =
    sym (last_some (texts_in u w n b) k t (omega (arith, h)) ∙ rw (text_at_lem u w n b (k - 1) (omega (arith, h)), ← p, ← e))

pub last_most : (copies : List (List ℕ)) (k : ℕ) (t : List ℕ) (s : ℕ) → s ≡ bump (is_last copies k t) 0 → s ≤ k
unfolding is_last bump
last_most copies zero t s e = omega arith
last_most copies (suc k) t s e = omega (arith, bump_le (eqs t (get_or copies k [])) 0 k (omega arith))

-- ---- from the last line to the first

lowered : (r : Bool) (k s : ℕ) → s ≡ bump r 0 → k - s ≡ lower r k
unfolding bump
lowered true k s e = rw e (sym (lower_hit k))
lowered false k s e = rw e (omega (arith, lower_miss k))

module _ (w n : ℕ) (lines : List ℕ) (copies : List (List ℕ)) where
  -- x is the line before the place i, and s its mark
  pub pair_turn : (i k : ℕ) (ms : List ℕ) → Pairs (texts_in w w n lines) copies i k ms → 0 < i → i ≤ n → length ms ≡ n
      → (x : List ℕ) → x ≡ part_at w (i - 1) lines → (s : ℕ) → s ≡ bump (is_last copies k (text w x)) 0
      → Pairs (texts_in w w n lines) copies (i - 1) (k - s) (set ms (i - 1) s)
  pair_turn i k ms p z h l x q s e =
      let r : Bool = is_last copies k (get_or (texts_in w w n lines) (i - 1) []) in
      let f : s ≡ bump r 0 = e ∙ rw (text_at_lem w w n lines (i - 1) (omega arith), ← q) in
      pairs_turn (texts_in w w n lines) copies i k ms p (i - 1) (omega arith) (omega (arith, length_texts w w n lines)) (omega arith) r refl (k - s) (lowered r k s f) (set ms (i - 1) s) (rw f)

-- ---- as many marks as lines

length_marked : (h g ms : List ℕ) → ms ≡ paired (texts_of h) (copies_of h g) → length ms ≡ lines_in h
unfolding texts_of
length_marked h g ms e = rw e (length_paired (copies_of h g) (map (text (width_of h)) (lines_of h)) ∙ length-map (lines_of h) (text (width_of h)) ∙ length_lines h)

-- ---- the copies are the lines left: both files' lines are handed over as parts

module _ (h g : List ℕ) (lines answers : Parts) (b : Lines h lines) (a : Answered h g answers) where
  texts_are : part_texts lines.width lines ≡ texts_of h
  unfolding texts_in texts_of lines_of
  texts_are = rw (b.0, b.1, b.2)

  copies_are : part_texts lines.width answers ≡ copies_of h g
  unfolding texts_in copies_of
  copies_are = rw (b.1, lines_are h g answers a)

  -- ms are the marks, and x copies wait
  module _ (x : ℕ) (ms : List ℕ)
      (p : (x ≡ waiting (part_texts lines.width lines) (part_texts lines.width answers)) × (ms ≡ paired (part_texts lines.width lines) (part_texts lines.width answers))) where
    pub marked : ms ≡ paired (texts_of h) (copies_of h g)
    marked = p.1 ∙ rw (texts_are, copies_are)

    pub marked_each : length ms ≡ lines.count
    marked_each = length_marked h g ms marked ∙ sym b.2

    -- r says whether the lines marked 0 are the first of their texts
    are_copies : (r : Bool) → r ≡ firsts (part_texts lines.width lines) ms → eqb x 0 && r ≡ copies_hold h g
    unfolding pairs_up
    are_copies r f = rw (f, p.0, texts_are, copies_are, marked) (sym (copies_pair h g))

    pub none_waits : x ≡ 0 → (r : Bool) → r ≡ firsts (part_texts lines.width lines) ms → r ≡ copies_hold h g
    none_waits z r f = rw (eq-eqb x 0 z) at (are_copies r f)

    pub some_wait : (x ≡ 0 → ⊥) → eqb x 0 ≡ copies_hold h g
    some_wait z = ne_eqb x 0 z ∙ (rw (ne_eqb x 0 z) at (are_copies (firsts (part_texts lines.width lines) ms) refl))

-- ---- and the lines taken hold: the lines are handed over as parts, and ms are the marks

-- where the copies are the lines left, what was written are the marks
pub are_marks : (h g ms : List ℕ) → ms ≡ paired (texts_of h) (copies_of h g) → copies_hold h g ≡ true → ms ≡ marks_of h g
are_marks h g ms e p = e ∙ pair_marks h g (sym (copies_pair h g) ∙ p)

module _ (h g ms : List ℕ) (e : ms ≡ marks_of h g) where
  pub marks_each : length ms ≡ lines_in h
  unfolding marks_of texts_of
  marks_each = rw e (length_marks (texts_of h) (copies_of h g) ∙ length-map (lines_of h) (text (width_of h)) ∙ length_lines h)

  pub are_taken : (lines : Parts) → Lines h lines → pick good ms (all_of lines) ≡ taken_by h g
  unfolding taken_by lines_of
  are_taken lines b = rw (b.0, b.1, b.2, e)

  pub count_is : tally good ms ≡ length (taken_by h g)
  count_is = rw e (taken_count h g)
