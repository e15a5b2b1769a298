-- The confirmation written part by part. Assumes nothing.
use mathlib.Core.Path.{◌≡◌, refl, ap, ◌∙◌}
use mathlib.Core.Bool.{true}
use mathlib.Core.List.{List, [], ◌++◌, append-nil}
use Prim.Native.Nat.{ℕ, zero, suc, ◌+◌, ◌*◌, ◌-◌, ◌≤◌, ◌<◌}
use native.Mathlib.Omega.{arith}
use native.Mathlib.Nat.{mul-le-mul_right}
use lib.ListN.{length, drop, get_or, length-append}
use Rattle.theory.specs.Text.{bytes}
use Rattle.theory.specs.Keep.{onto}
use Rattle.theory.specs.Parts.{chop, part_at}
use Rattle.theory.specs.laws.Parts.{length_chop, length_part}
use Rattle.theory.specs.Pick.{good, bad}
use Rattle.theory.specs.Tally.{tally}
use Rattle.theory.specs.Join.{flat}
use Rattle.theory.specs.laws.Join.{flat_append, chop_snoc, each_chop}
use Rattle.texts.specs.Field.{field, line_end}
use Rattle.texts.specs.laws.Field.{field_length}
use Rattle.texts.specs.laws.Pieces.{length_pieces}
use Rattle.writing.specs.Put.{put_field}
use Rattle.writing.specs.laws.Laid.{Laid, laid, laid_start, laid_join, laid_next, laid_front, laid_length, all_done, then, in_turn}
use Rattle.numbers.specs.Number.{decimal, zeros}
use Rattle.numbers.specs.laws.Number.{length_decimal, length_zeros}
use Rattle.columns.specs.Columns.{text}
use Rattle.hgv.specs.Layout.{width_of, lines_in, length_holds, body, lines_of}
use Rattle.hgv.specs.laws.Layout.{width_has, each_line, length_least}
use Rattle.sizes.specs.Sizes.{header_length, hgc_header_length}
use Rattle.header.specs.Header.{sender, list_sequence}
use Rattle.frames.specs.Frames.{foot}
use Rattle.frames.specs.laws.Frames.{length_foot}
use Rattle.hgc.specs.Confirmation.{answer_length, confirmation_length, outcome, name_texts, count_texts, head, answer, answers, confirmation}
use Rattle.hgc.specs.laws.Confirmation.{said, Holding, length_outcome, names_wide, counts_wide, length_text, length_answer, answers_none, answers_most, answers_more, length_answers}

-- a field, as its reader has it
pub wide : (from to : ℕ) (l f : List ℕ) → f ≡ field from to l → 1 ≤ from → to ≤ length l → length f ≡ to + 1 - from
wide from to l f e a h = ap length e ∙ field_length from to l a h

pub outcome_none : (rejected : ℕ) → rejected ≡ 0 → bytes "00" ≡ outcome rejected
unfolding outcome
outcome_none rejected e = rw e

pub outcome_some : (rejected : ℕ) → (rejected ≡ 0 → ⊥) → bytes "01" ≡ outcome rejected
unfolding outcome
outcome_some zero n = absurd (n refl)
outcome_some (suc k) n = refl

-- s₁ to s₅ are the block after each field
pub names_written : (reception h s₀ s₁ s₂ s₃ s₄ s₅ f g : List ℕ) → 46 ≤ length s₀ → length reception ≡ 14 → header_length ≤ length h → f ≡ sender h → g ≡ list_sequence h
    → s₁ ≡ put_field 1 (bytes "0") s₀ → s₂ ≡ put_field 2 (bytes "000002") s₁ → s₃ ≡ put_field 8 f s₂ → s₄ ≡ put_field 14 g s₃ → s₅ ≡ put_field 33 reception s₄
    → s₅ ≡ put_field 1 (flat (name_texts reception h)) s₀
names_written reception h s₀ s₁ s₂ s₃ s₄ s₅ f g n d l ef eg e₁ e₂ e₃ e₄ e₅ =
    let nf : length f ≡ 6 = wide 2 7 h f ef (omega arith) (omega arith) in
    let ng : length g ≡ 19 = wide 14 32 h g eg (omega arith) (omega arith) in
    in_turn {r = 47}
    (then {q = 2} e₁ refl
    (then {q = 8} e₂ refl
    (then {q = 14} e₃ (omega arith)
    (then {q = 33} e₄ (omega arith)
    (then {q = 47} e₅ (omega arith) all_done))))) (omega arith) (omega arith)
    ∙ rw (ef, eg)

pub counts_written : (taken rejected : ℕ) (s₀ s₁ s₂ s₃ s₄ s₅ s₆ : List ℕ) → 110 ≤ length s₀
    → s₁ ≡ put_field 47 (decimal 15 taken) s₀ → s₂ ≡ put_field 62 (decimal 15 rejected) s₁ → s₃ ≡ put_field 77 (bytes "120001") s₂
    → s₄ ≡ put_field 83 (zeros 25) s₃ → s₅ ≡ put_field 108 (outcome rejected) s₄ → s₆ ≡ put_field 110 line_end s₅
    → s₆ ≡ put_field 47 (flat (count_texts taken rejected)) s₀
counts_written taken rejected s₀ s₁ s₂ s₃ s₄ s₅ s₆ n e₁ e₂ e₃ e₄ e₅ e₆ =
    in_turn {r = 111}
    (then {q = 62} e₁ (omega (arith, length_decimal 15 taken))
    (then {q = 77} e₂ (omega (arith, length_decimal 15 rejected))
    (then {q = 83} e₃ refl
    (then {q = 108} e₄ (omega (arith, length_zeros 25))
    (then {q = 110} e₅ (omega (arith, length_outcome rejected))
    (then {q = 111} e₆ refl all_done)))))) (omega arith) (omega arith)

pub answer_written : (from w reason : ℕ) (l s₀ s₁ s₂ s₃ s₄ f : List ℕ) → 1 ≤ from → from - 1 + answer_length w ≤ length s₀ → Holding w l → f ≡ text w l
    → s₁ ≡ put_field (from - 1 + 1) (bytes "1") s₀ → s₂ ≡ put_field (from - 1 + 2) f s₁ → s₃ ≡ put_field (from - 1 + w) (decimal 2 reason) s₂ → s₄ ≡ put_field (from - 1 + w + 2) line_end s₃
    → s₄ ≡ put_field from (answer w reason l) s₀
unfolding answer
answer_written from w reason l s₀ s₁ s₂ s₃ s₄ f o n (h, k) ef e₁ e₂ e₃ e₄ =
    let p : from - 1 + 1 ≡ from = omega arith in
    let nf : length f ≡ w - 2 = ap length ef ∙ length_text w l (h, k) in
    let e : s₁ ≡ put_field from (bytes "1") s₀ = rw p at e₁ in
    in_turn {r = from - 1 + w + 3}
    (then {q = from - 1 + 2} e (omega arith)
    (then {q = from - 1 + w} e₂ (omega arith)
    (then {q = from - 1 + w + 2} e₃ (omega (arith, length_decimal 2 reason))
    (then {q = from - 1 + w + 3} e₄ (omega arith) all_done)))) o (omega arith)
    ∙ rw ef

-- ---- a line answered or not

pub said_none : (w v : ℕ) (l : List ℕ) → v ≡ 0 → said w v l ≡ []
unfolding said onto flat bad
said_none w v l e = rw e

pub said_one : (w v : ℕ) (l : List ℕ) → (v ≡ 0 → ⊥) → said w v l ≡ answer w v l
unfolding said onto flat bad
said_one w zero l n = absurd (n refl)
said_one w (suc v) l n = append-nil (answer w (suc v) l)

said_long : (w v : ℕ) (l : List ℕ) → (v ≡ 0 → ⊥) → Holding w l → length (said w v l) ≡ answer_length w
said_long w v l n h = ap length (said_one w v l n) ∙ length_answer w v l h

pub answer_fits : (from w v m : ℕ) (l : List ℕ) → from - 1 + length (said w v l) ≤ m → (v ≡ 0 → ⊥) → Holding w l → from - 1 + answer_length w ≤ m
answer_fits from w v m l r n h = omega (arith, said_long w v l n h)

module _ (from w v : ℕ) (l s : List ℕ) (o : 1 ≤ from) (room : from - 1 + length (said w v l) ≤ length s) where
  pub line_passed : v ≡ 0 → Laid from from (said w v l) s s
  line_passed e = rw (said_none w v l e) (laid_start from s o (omega arith))

  pub line_answered : (s' : List ℕ) → s' ≡ put_field from (answer w v l) s → (v ≡ 0 → ⊥) → Holding w l → Laid from (from + w + 2) (said w v l) s s'
  line_answered s' e n h = laid from (from + w + 2) (said w v l) s s' (e ∙ rw (said_one w v l n)) (omega (arith, said_long w v l n h)) o (omega (arith, said_long w v l n h))

-- ---- the lines, one after another, w bytes each; b is the body, and o the block before

-- the first i are answered, and q is the position behind
unfoldable pub Answered : ℕ → List ℕ → List ℕ → List ℕ → List ℕ → ℕ → ℕ → Type 0
Answered w vs b o s i q = Laid 111 q (flat (answers w vs (chop w i b))) o s

module _ (w : ℕ) (vs b o : List ℕ) where
  pub answered_start : hgc_header_length ≤ length o → Answered w vs b o o 0 111
  unfolding Answered flat chop
  answered_start r = rw (answers_none w vs) (laid_start 111 o (omega arith) (omega arith))

  module _ (s : List ℕ) (i q : ℕ) (a : Answered w vs b o s i q) where
    pub answered_end : (n : ℕ) → n ≤ i → i ≤ n → Laid 111 q (flat (answers w vs (chop w n b))) o s
    unfolding Answered
    answered_end n h k = let e : i ≡ n = omega arith in rw e at a

    module _ (h : i < length vs) (m : i * w + w ≤ length b) where
      next_said : flat (answers w vs (chop w (i + 1) b)) ≡ flat (answers w vs (chop w i b)) ++ said w (get_or vs i 0) (part_at w i b)
      unfolding said
      next_said =
          let e : length (chop w i b) ≡ i = length_chop w i b in
          rw (chop_snoc w i b, answers_more w vs (chop w i b) (part_at w i b) (omega arith), e, flat_append)

      module _ (l : List ℕ) (p : l ≡ part_at w i b) (wide : 3 ≤ w) where
        pub line_long : Holding w l
        line_long = let e : length l ≡ w = ap length p ∙ length_part w i b m in (wide, omega arith)

        pub answered_room : hgc_header_length + tally bad vs * answer_length w ≤ length o → (1 ≤ q) × ((q - 1 + length (said w (get_or vs i 0) l) ≤ length s) × Holding w l)
        unfolding Answered
        answered_room r =
            let done : List ℕ = flat (answers w vs (chop w i b)) in
            let more : List (List ℕ) = answers w vs (chop w (i + 1) b) in
            let m' : length (flat more) ≡ length more * answer_length w = length_answers w wide vs (each_chop w (i + 1) b (omega (arith, m))) in
            let k : length more * answer_length w ≤ tally bad vs * answer_length w = mul-le-mul_right (answer_length w) (answers_most w vs (chop w (i + 1) b)) in
            let e : length (flat more) ≡ length done + length (said w (get_or vs i 0) l) = ap length next_said ∙ length-append done (said w (get_or vs i 0) (part_at w i b)) ∙ rw p in
            let n : length s ≡ length o = laid_length 111 q done o s a in
            (omega (arith, a.behind), (omega (arith, a.behind), line_long))

        pub answered_turn : (s' : List ℕ) (q' : ℕ) → Laid q q' (said w (get_or vs i 0) l) s s' → Answered w vs b o s' (i + 1) q'
        unfolding Answered
        answered_turn s' q' d = rw next_said (laid_join 111 q q' _ _ o s s' a (rw p at d))

-- ---- the whole; s₁ to s₄ are the block after each part, and q is the position of the footer

module _ (h vs b s₂ s₃ : List ℕ) (w q : ℕ) (eb : b ≡ body h) (ew : w ≡ width_of h) (v : Laid 111 q (flat (answers w vs (chop w (length vs) b))) s₂ s₃) (each : length vs ≡ lines_in h) where
  lines_laid : Laid 111 q (flat (answers (width_of h) vs (lines_of h))) s₂ s₃
  unfolding lines_of
  lines_laid = rw (each, eb, ew) at v

  foot_place : q ≤ 111 + tally bad vs * answer_length (width_of h)
  foot_place =
      let k : length (answers (width_of h) vs (lines_of h)) * answer_length (width_of h) ≤ tally bad vs * answer_length (width_of h) = mul-le-mul_right (answer_length (width_of h)) (answers_most (width_of h) vs (lines_of h)) in
      omega (arith, lines_laid.behind, length_answers (width_of h) (width_has h 3 (omega arith)) vs (each_line h))

  pub foot_fits : (rejected m : ℕ) → rejected ≡ tally bad vs → confirmation_length (width_of h) rejected ≤ m → length s₂ ≡ m → (1 ≤ q) × (q - 1 + 64 ≤ length s₃)
  foot_fits rejected m er room e =
      let r : confirmation_length (width_of h) (tally bad vs) ≤ m = rw er at room in
      let n : length s₃ ≡ length s₂ = laid_length 111 q _ s₂ s₃ v in
      (omega (arith, v.behind), omega (arith, v.behind, foot_place))

  pub written : (reception o s₁ s₄ : List ℕ) (taken rejected : ℕ) → length reception ≡ 14 → length_holds h ≡ true → taken ≡ tally good vs → rejected ≡ tally bad vs → confirmation_length (width_of h) rejected ≤ length o
      → s₁ ≡ put_field 1 (flat (name_texts reception h)) o → s₂ ≡ put_field 47 (flat (count_texts taken rejected)) s₁ → s₄ ≡ put_field q foot s₃
      → s₄ ≡ confirmation reception h vs ++ drop (length (confirmation reception h vs)) o
  unfolding confirmation head
  written reception o s₁ s₄ taken rejected dated whole et er room e₁ e₂ e₄ =
      let r : confirmation_length (width_of h) (tally bad vs) ≤ length o = rw er at room in
      let l : length (flat (name_texts reception h)) ≡ 46 = length_pieces (names_wide reception h dated (omega (arith, length_least h whole))) in
      let k : length (flat (count_texts taken rejected)) ≡ 64 = length_pieces (counts_wide taken rejected) in
      let v₁ = laid 1 47 (flat (name_texts reception h)) o s₁ e₁ (omega arith) (omega arith) (omega arith) in
      let v₂ = laid_next 1 47 _ o s₁ v₁ (flat (count_texts taken rejected)) s₂ 111 e₂ (omega arith) (omega arith) in
      let v₃ = laid_join 1 111 q _ _ o s₂ s₃ v₂ lines_laid in
      let v₄ = laid_next 1 q _ o s₃ v₃ foot s₄ (q + 64) e₄ (omega (arith, length_foot)) (omega (arith, foot_place)) in
      laid_front (q + 64) _ o s₄ v₄ ∙ rw (et, er, flat_append (name_texts reception h) (count_texts (tally good vs) (tally bad vs)))
