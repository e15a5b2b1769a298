-- How long the parts of the confirmation are, and the answers line by line. Assumes nothing.
use Rattle.std.specs.Prelude.{◌≡◌, ℕ, zero, suc, ◌*◌, ◌-◌, ◌≤◌, ◌<◌, length, get_or}
use Rattle.std.proofs.Math.Path.{refl}
use Rattle.std.proofs.Common.{sym, ap, ◌∙◌, length-append}
use Rattle.std.proofs.Math.Bool.{true}
use mathlib.Core.List.{List, [], ◌∷◌, ◌++◌}
use native.Mathlib.Omega.{arith}
use Rattle.theory.specs.laws.Count.{bump_and_le}
use Rattle.theory.specs.Each.{Each, none, more}
use Rattle.theory.specs.Keep.{onto}
use Rattle.theory.specs.laws.Keep.{onto_append, length_onto, each_onto}
use Rattle.theory.specs.Pick.{good, bad}
use Rattle.theory.specs.Tally.{tally}
use Rattle.theory.specs.Join.{flat}
use Rattle.theory.specs.laws.Join.{length_flat}
use Rattle.texts.specs.laws.Field.{field_length}
use Rattle.texts.specs.laws.Pieces.{Wide, no_more, then, wide_append, length_pieces}
use Rattle.numbers.specs.laws.Number.{length_decimal, length_zeros}
use Rattle.columns.specs.Columns.{text}
use Rattle.hgv.specs.Layout.{width_of, lines_in, length_holds, lines_of}
use Rattle.sizes.specs.Sizes.{header_length, hgc_header_length}
use Rattle.hgv.specs.laws.Layout.{width_has, length_lines, each_line, length_least}
use Rattle.frames.specs.laws.Frames.{length_foot}
use Rattle.hgc.specs.Confirmation.{answer_length, confirmation_length, outcome, name_texts, count_texts, head, answer_texts, answer, answers, confirmation}

-- what there is of a line: its answer, and nothing where it was not rejected
unfoldable pub said : ℕ → ℕ → List ℕ → List ℕ
said w v l = flat (onto (bad v) (answer w v l) [])

pub length_outcome : (rejected : ℕ) → length (outcome rejected) ≡ 2
unfolding outcome
length_outcome zero = refl
length_outcome (suc n) = refl

-- ---- the header

pub names_wide : (reception h : List ℕ) → length reception ≡ 14 → header_length ≤ length h → Wide (1 ∷ 6 ∷ 6 ∷ 19 ∷ 14 ∷ []) (name_texts reception h)
names_wide reception h d l = then refl (then refl (then (field_length 2 7 h (omega arith) (omega arith)) (then (field_length 14 32 h (omega arith) (omega arith)) (then d no_more))))

pub counts_wide : (taken rejected : ℕ) → Wide (15 ∷ 15 ∷ 6 ∷ 25 ∷ 2 ∷ 1 ∷ []) (count_texts taken rejected)
counts_wide taken rejected = then (length_decimal 15 _) (then (length_decimal 15 _) (then refl (then (length_zeros 25) (then (length_outcome rejected) (then refl no_more)))))

pub head_wide : (reception h : List ℕ) (taken rejected : ℕ) → length reception ≡ 14 → header_length ≤ length h
    → Wide (1 ∷ 6 ∷ 6 ∷ 19 ∷ 14 ∷ 15 ∷ 15 ∷ 6 ∷ 25 ∷ 2 ∷ 1 ∷ []) (name_texts reception h ++ count_texts taken rejected)
head_wide reception h taken rejected d l = wide_append (names_wide reception h d l) (counts_wide taken rejected)

pub length_head : (reception h : List ℕ) (taken rejected : ℕ) → length reception ≡ 14 → header_length ≤ length h → length (head reception h taken rejected) ≡ hgc_header_length
unfolding head
length_head reception h taken rejected d l = length_pieces (head_wide reception h taken rejected d l)

-- ---- the answers

-- a line that its text lies within
abbrev pub Holding : ℕ → List ℕ → Type 0
Holding w l = (3 ≤ w) × (w - 1 ≤ length l)

pub length_text : (w : ℕ) (l : List ℕ) → Holding w l → length (text w l) ≡ w - 2
length_text w l (o, h) = field_length 2 (w - 1) l (omega arith) h ∙ omega arith

pub answers_none : (w : ℕ) (vs : List ℕ) → answers w vs [] ≡ []
unfolding answers
answers_none w [] = refl
answers_none w (v ∷ vs) = refl

module _ (w : ℕ) where
  pub answer_wide : (v : ℕ) (l : List ℕ) → Holding w l → Wide (1 ∷ (w - 2) ∷ 2 ∷ 1 ∷ []) (answer_texts w v l)
  answer_wide v l h = then refl (then (length_text w l h) (then (length_decimal 2 v) (then refl no_more)))

  pub length_answer : (v : ℕ) (l : List ℕ) → Holding w l → length (answer w v l) ≡ answer_length w
  unfolding answer
  length_answer v l h = length_pieces (answer_wide v l h) ∙ omega (arith, h.0)

  -- one for each bad verdict
  pub count_answers : (vs : List ℕ) (ls : List (List ℕ)) → length vs ≡ length ls → length (answers w vs ls) ≡ tally bad vs
  unfolding answers tally
  count_answers [] [] h = refl
  count_answers [] (l ∷ ls) h = absurd (omega arith)
  count_answers (v ∷ vs) [] h = absurd (omega arith)
  count_answers (v ∷ vs) (l ∷ ls) h = length_onto (bad v) (answer w v l) (answers w vs ls) ∙ rw (count_answers vs ls (omega arith))

  -- and no more, however many lines there are
  pub answers_most : (vs : List ℕ) (ls : List (List ℕ)) → length (answers w vs ls) ≤ tally bad vs
  unfolding answers tally
  answers_most [] ls = omega arith
  answers_most (v ∷ vs) [] = omega arith
  answers_most (v ∷ vs) (l ∷ ls) = rw (length_onto (bad v) (answer w v l) (answers w vs ls)) (bump_and_le true (bad v) _ _ (answers_most vs ls))

  -- one more line at the end, where there are verdicts enough
  pub answers_more : (vs : List ℕ) (ls : List (List ℕ)) (l : List ℕ) → length ls < length vs
      → answers w vs (ls ++ l ∷ []) ≡ answers w vs ls ++ onto (bad (get_or vs (length ls) 0)) (answer w (get_or vs (length ls) 0) l) []
  unfolding answers
  answers_more [] ls l h = absurd (omega arith)
  answers_more (v ∷ []) [] l h = refl
  answers_more (v ∷ u ∷ vs) [] l h = refl
  answers_more (v ∷ vs) (k ∷ ls) l h =
      rw (answers_more vs ls l (omega arith)) (sym (onto_append (bad v) (answer w v k) (answers w vs ls) (onto (bad (get_or vs (length ls) 0)) (answer w (get_or vs (length ls) 0) l) [])))

  -- the lines of a file
  module _ (wide : 3 ≤ w) where
    pub each_answer : (vs : List ℕ) {ls : List (List ℕ)} → Each (λ l. length l ≡ w) ls → Each (λ a. length a ≡ answer_length w) (answers w vs ls)
    unfolding answers
    each_answer [] h = none
    each_answer (v ∷ vs) none = none
    each_answer (v ∷ vs) (more h hs) = each_onto (bad v) _ _ (λ e. length_answer v _ (wide, omega arith)) (each_answer vs hs)

    pub length_answers : (vs : List ℕ) {ls : List (List ℕ)} → Each (λ l. length l ≡ w) ls → length (flat (answers w vs ls)) ≡ length (answers w vs ls) * answer_length w
    length_answers vs h = length_flat (answer_length w) (each_answer vs h)

-- ---- the whole

pub length_confirmation : (reception h vs : List ℕ) → length reception ≡ 14 → length_holds h ≡ true → length vs ≡ lines_in h
    → length (confirmation reception h vs) ≡ confirmation_length (width_of h) (tally bad vs)
unfolding confirmation
length_confirmation reception h vs d e n =
    let w : ℕ = width_of h in
    let a : length (head reception h (tally good vs) (tally bad vs)) ≡ hgc_header_length = length_head reception h (tally good vs) (tally bad vs) d (omega (arith, length_least h e)) in
    let c : length (answers w vs (lines_of h)) ≡ tally bad vs = count_answers w vs (lines_of h) (omega (arith, length_lines h)) in
    let b : length (flat (answers w vs (lines_of h))) ≡ tally bad vs * answer_length w = length_answers w (width_has h 3 (omega arith)) vs (each_line h) ∙ ap (λ (k : ℕ). k * answer_length w) c in
    simp length-append (omega (arith, length_foot))
