-- What stands in the confirmation, field by field, for those who read one. Assumes nothing.
use Rattle.std.specs.Prelude.{◌≡◌, ℕ, ◌+◌, ◌-◌, ◌≤◌, ◌<◌, length, get_or}
use Rattle.std.proofs.Math.Path.{refl}
use Rattle.std.proofs.Common.{◌∙◌, arith}
use mathlib.Core.List.{List, [], ◌∷◌, ◌++◌, map}
use Rattle.theory.specs.Text.{bytes}
use Rattle.theory.specs.Each.{Each, none, more}
use Rattle.theory.specs.laws.Keep.{map_onto}
use Rattle.theory.specs.Pick.{bad, pick}
use Rattle.texts.specs.Field.{field, line_end}
use Rattle.texts.specs.laws.Pieces.{behind, piece}
use Rattle.numbers.specs.Number.{decimal, zeros}
use Rattle.columns.specs.Columns.{text}
use Rattle.sizes.specs.Sizes.{header_length}
use Rattle.header.specs.Header.{sender, list_sequence}
use Rattle.hgc.specs.Confirmation.{outcome, name_texts, count_texts, head, answer_texts, answer, answers}
use Rattle.hgc.specs.laws.Confirmation.{Holding, head_wide, answer_wide}

-- ---- the header

module _ (reception h : List ℕ) (taken rejected : ℕ) (dated : length reception ≡ 14) (long : header_length ≤ length h) where
  abbrev widths : List ℕ
  widths = 1 ∷ 6 ∷ 6 ∷ 19 ∷ 14 ∷ 15 ∷ 15 ∷ 6 ∷ 25 ∷ 2 ∷ 1 ∷ []

  -- the text at place i
  text_at_lem : (i from to : ℕ) → i < length widths → behind i widths + 1 ≡ from → behind (i + 1) widths ≡ to
      → field from to (head reception h taken rejected) ≡ get_or (name_texts reception h ++ count_texts taken rejected) i []
  unfolding head
  text_at_lem i from to = piece i from to (head_wide reception h taken rejected dated long)

  pub head_type : field 1 1 (head reception h taken rejected) ≡ bytes "0"
  head_type = text_at_lem 0 1 1 (omega arith) refl refl

  pub head_sender : field 2 7 (head reception h taken rejected) ≡ bytes "000002"
  head_sender = text_at_lem 1 2 7 (omega arith) refl refl

  pub head_receiver : field 8 13 (head reception h taken rejected) ≡ sender h
  head_receiver = text_at_lem 2 8 13 (omega arith) refl refl

  pub head_sequence : field 14 32 (head reception h taken rejected) ≡ list_sequence h
  head_sequence = text_at_lem 3 14 32 (omega arith) refl refl

  pub head_reception : field 33 46 (head reception h taken rejected) ≡ reception
  head_reception = text_at_lem 4 33 46 (omega arith) refl refl

  pub head_taken : field 47 61 (head reception h taken rejected) ≡ decimal 15 taken
  head_taken = text_at_lem 5 47 61 (omega arith) refl refl

  pub head_rejected : field 62 76 (head reception h taken rejected) ≡ decimal 15 rejected
  head_rejected = text_at_lem 6 62 76 (omega arith) refl refl

  pub head_version : field 77 82 (head reception h taken rejected) ≡ bytes "120001"
  head_version = text_at_lem 7 77 82 (omega arith) refl refl

  pub head_filler : field 83 107 (head reception h taken rejected) ≡ zeros 25
  head_filler = text_at_lem 8 83 107 (omega arith) refl refl

  pub head_outcome : field 108 109 (head reception h taken rejected) ≡ outcome rejected
  head_outcome = text_at_lem 9 108 109 (omega arith) refl refl

  pub head_end : field 110 110 (head reception h taken rejected) ≡ line_end
  head_end = text_at_lem 10 110 110 (omega arith) refl refl

-- ---- an answer, to a line of width w

module _ (w v : ℕ) (l : List ℕ) (holding : Holding w l) where
  part_at : (i from to : ℕ) → i < 4 → behind i (1 ∷ (w - 2) ∷ 2 ∷ 1 ∷ []) + 1 ≡ from → behind (i + 1) (1 ∷ (w - 2) ∷ 2 ∷ 1 ∷ []) ≡ to
      → field from to (answer w v l) ≡ get_or (answer_texts w v l) i []
  unfolding answer
  part_at i from to = piece i from to (answer_wide w v l holding)

  pub answer_type : field 1 1 (answer w v l) ≡ bytes "1"
  answer_type = part_at 0 1 1 (omega arith) refl refl

  -- the text as it was sent
  pub answer_text : text w (answer w v l) ≡ text w l
  answer_text = part_at 1 2 (w - 1) (omega arith) refl (omega (arith, holding.0))

  pub answer_reason : field w (w + 1) (answer w v l) ≡ decimal 2 v
  answer_reason = part_at 2 w (w + 1) (omega arith) (omega (arith, holding.0)) (omega (arith, holding.0))

  pub answer_end : field (w + 2) (w + 2) (answer w v l) ≡ line_end
  answer_end = part_at 3 (w + 2) (w + 2) (omega arith) (omega (arith, holding.0)) (omega (arith, holding.0))

module _ (w : ℕ) (wide : 3 ≤ w) where
  -- the texts are those of the rejected lines
  pub texts_answers : (vs : List ℕ) {ls : List (List ℕ)} → Each (λ l. length l ≡ w) ls → map (text w) (answers w vs ls) ≡ pick bad vs (map (text w) ls)
  unfolding answers pick
  texts_answers [] h = refl
  texts_answers (v ∷ vs) none = refl
  texts_answers (v ∷ vs) (more {x} {xs} h hs) = map_onto (text w) (bad v) (answer w v x) (answers w vs xs) ∙ rw (answer_text w v x (wide, omega arith), texts_answers vs hs)

  -- and the reasons their verdicts
  pub reasons_answers : (vs : List ℕ) {ls : List (List ℕ)} → Each (λ l. length l ≡ w) ls → length vs ≡ length ls → map (field w (w + 1)) (answers w vs ls) ≡ map (decimal 2) (pick bad vs vs)
  unfolding answers pick
  reasons_answers [] h e = refl
  reasons_answers (v ∷ vs) none e = absurd (omega arith)
  reasons_answers (v ∷ vs) (more {x} {xs} h hs) e =
      rw (map_onto (field w (w + 1)) (bad v) (answer w v x) (answers w vs xs), map_onto (decimal 2) (bad v) v (pick bad vs vs), answer_reason w v x (wide, omega arith), reasons_answers vs hs (omega arith))
