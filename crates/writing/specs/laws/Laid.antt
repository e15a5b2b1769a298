-- Fields written one behind another into a text: what stands there then, and that all else is as it was. Assumes nothing.
use Rattle.std.specs.Prelude.{◌≡◌, List, [], ◌∷◌, ◌++◌, ℕ, ◌+◌, ◌-◌, ◌≤◌, length, take, drop}
use Rattle.std.proofs.Common.{sym, ap, ◌∙◌, append_assoc, arith, length-append, length-take, length-drop, take-append-drop, length-take-le, take_at, drop-drop}
use Rattle.std.proofs.Math.Seq.{drop-append-add}
use Rattle.theory.specs.Join.{flat}
use Rattle.writing.specs.Put.{put_field}

-- w is written from position p on, q is the position behind it, and all else is as in the text before
pub record Laid (p q : ℕ) (w before text : List ℕ) : Type 0 where
  pub is : text ≡ put_field p w before
  pub behind : p + length w ≡ q
  pub first : 1 ≤ p
  pub room : q ≤ length before + 1

-- one field
pub laid : (p q : ℕ) (f before text : List ℕ) → text ≡ put_field p f before → p + length f ≡ q → 1 ≤ p → q ≤ length before + 1 → Laid p q f before text
laid p q f before text e l o r = record { is = e; behind = l; first = o; room = r }

-- nothing yet
pub laid_start : (p : ℕ) (before : List ℕ) → 1 ≤ p → p ≤ length before + 1 → Laid p p [] before before
unfolding put_field
laid_start p before o r =
    let z : p - 1 + 0 ≡ p - 1 = omega arith in
    record { is = rw z (sym (take-append-drop (p - 1) before)); behind = omega arith; first = o; room = r }

-- no byte more, no byte less
pub laid_length : (p q : ℕ) (w before text : List ℕ) → Laid p q w before text → length text ≡ length before
unfolding put_field
laid_length p q w before text v =
    let o = v.first in
    let l = v.behind in
    let r = v.room in
    ap length v.is ∙ simp (length-append, length-take, length-drop) (omega arith)

-- f written behind w, as one
put_behind : (p : ℕ) (w f before : List ℕ) → 1 ≤ p → p + length w ≤ length before + 1 → put_field (p + length w) f (put_field p w before) ≡ put_field p (w ++ f) before
unfolding put_field
put_behind p w f before o r =
    let a : List ℕ = take (p - 1) before in
    let d : List ℕ = drop (p - 1 + length w) before in
    let front : length (a ++ w) ≡ p + length w - 1 = length-append a w ∙ rw (length-take-le (p - 1) before (omega arith)) (omega arith) in
    let far : p + length w - 1 + length f ≡ length (a ++ w) + length f = omega arith in
    let rest : p - 1 + length w + length f ≡ p - 1 + length (w ++ f) = simp length-append (omega arith) in
    rw (← append_assoc a w d, take_at (a ++ w) d (p + length w - 1) front, far, drop-append-add (a ++ w) d (length f), drop-drop (length f) (p - 1 + length w) before, rest)
    (append_assoc a w (f ++ drop (p - 1 + length (w ++ f)) before) ∙ rw (append_assoc w f (drop (p - 1 + length (w ++ f)) before)))

-- a text written behind
pub laid_join : (p q r : ℕ) (w f before text text' : List ℕ) → Laid p q w before text → Laid q r f text text' → Laid p r (w ++ f) before text'
laid_join p q r w f before text text' v u =
    let l = v.behind in
    let m = u.behind in
    let n : length text ≡ length before = laid_length p q w before text v in
    let e : text' ≡ put_field (p + length w) f (put_field p w before) = u.is ∙ rw (l, v.is) in
    record {
      is = e ∙ put_behind p w f before v.first (omega (arith, v.room));
      behind = simp length-append (omega arith);
      first = v.first;
      room = omega (arith, u.room);
    }

-- one field more
pub laid_next : (p q : ℕ) (w before text : List ℕ) → Laid p q w before text → (f text' : List ℕ) (r : ℕ)
    → text' ≡ put_field q f text → q + length f ≡ r → r ≤ length before + 1 → Laid p r (w ++ f) before text'
laid_next p q w before text v f text' r e l h =
    let n : length text ≡ length before = laid_length p q w before text v in
    laid_join p q r w f before text text' v (laid q r f text text' e l (omega (arith, v.first, v.behind)) (omega arith))

-- written from the front
pub laid_front : (q : ℕ) (w before text : List ℕ) → Laid 1 q w before text → text ≡ w ++ drop (length w) before
unfolding put_field
laid_front q w before text v = v.is ∙ let z : 0 + length w ≡ length w = omega arith in rw z

-- ---- one behind another

-- the texts fs, each written behind the one before it, from position p on; r is the position behind the last
pub data InTurn : ℕ → ℕ → List (List ℕ) → List ℕ → List ℕ → Type 0 where
  all_done : {p : ℕ} {text : List ℕ} → InTurn p p [] text text
  then : {p q r : ℕ} {f : List ℕ} {fs : List (List ℕ)} {s t text : List ℕ} → t ≡ put_field p f s → p + length f ≡ q → InTurn q r fs t text → InTurn p r (f ∷ fs) s text

-- they reach as far
in_turn_behind : {p r : ℕ} {fs : List (List ℕ)} {before text : List ℕ} → InTurn p r fs before text → p + length (flat fs) ≡ r
unfolding flat
in_turn_behind all_done = omega arith
in_turn_behind (then {f = f} {fs = fs} e k v) = let h = in_turn_behind v in simp length-append (omega arith)

-- and are written as one
pub in_turn : {p r : ℕ} {fs : List (List ℕ)} {before text : List ℕ} → InTurn p r fs before text → 1 ≤ p → r ≤ length before + 1 → text ≡ put_field p (flat fs) before
unfolding flat
in_turn {p} (all_done {text = text}) o l = (laid_start p text o l).is
in_turn {p} {r} (then {q = q} {f = f} {fs = fs} {s = s} {t = t} e k v) o l =
    let h : q + length (flat fs) ≡ r = in_turn_behind v in
    let m : length t ≡ length s = laid_length p q f s t (laid p q f s t e k o (omega arith)) in
    let a : 1 ≤ q = omega arith in
    let b : r ≤ length t + 1 = omega arith in
    in_turn v a b ∙ rw (← k, e) (put_behind p f (flat fs) s o (omega arith))
