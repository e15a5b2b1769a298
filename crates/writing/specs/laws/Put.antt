-- Laws of a field written into a text, and of a text written field by field from its front. Assumes nothing.
use Rattle.std.specs.Prelude.{◌≡◌, refl, List, [], ◌++◌, ℕ, ◌+◌, ◌-◌, ◌≤◌, length, take, drop}
use Rattle.std.proofs.Common.{sym, ap, ◌∙◌, append_assoc, append-nil, arith, length-append, length-take, length-drop, drop_of_length-le, length-take-le, take_all, take_at, drop-drop}
use Rattle.std.proofs.Math.Nat.{add-sub_cancel_left}
use Rattle.writing.specs.Put.{put_field}

pub put_ap : (from : ℕ) {f g : List ℕ} (text : List ℕ) → f ≡ g → put_field from f text ≡ put_field from g text
put_ap from text e = ap (λ (x : List ℕ). put_field from x text) e

-- a field over a whole text
pub put_whole : (f text : List ℕ) → length f ≡ length text → put_field 1 f text ≡ f
unfolding put_field
put_whole f text e =
    let l : length text ≤ 1 - 1 + length f = omega arith in
    rw (drop_of_length-le text l) (append-nil f)

-- k bytes lent and returned, as the borrow checker has them; g is what came back
pub put_lent : (from k : ℕ) (f g text : List ℕ) → g ≡ f → length f ≡ k
    → take (from - 1) text ++ (g ++ drop (from - 1 + k - (from - 1)) (drop (from - 1) text)) ≡ put_field from f text
unfolding put_field
put_lent from k f g text e l = rw (add-sub_cancel_left (from - 1) k, e, l, drop-drop)

-- of a text of n bytes those before position p are written, and are w
pub record Written (n p : ℕ) (w text : List ℕ) : Type 0 where
  pub front : take (p - 1) text ≡ w
  pub size : length text ≡ n

pub written_start : (text : List ℕ) (n : ℕ) → length text ≡ n → Written n 1 [] text
written_start text n l = record { front = refl; size = l }

-- one field more
pub written_next : (n p : ℕ) (w text : List ℕ) → Written n p w text → (f text' : List ℕ) (q : ℕ)
    → text' ≡ put_field p f text → p + length f ≡ q → 1 ≤ p → q ≤ n + 1 → Written n q (w ++ f) text'
unfolding put_field
written_next n p w text v f text' q e h o k =
    let s : length text ≡ n = v.size in
    let b : length (take (p - 1) text) ≡ p - 1 = length-take-le (p - 1) text (omega arith) in
    let a : List ℕ = take (p - 1) text ++ f in
    let j : length a ≡ q - 1 = simp length-append (omega arith) in
    let d : List ℕ = drop (p - 1 + length f) text in
    rw e
    record {
      front = rw (← append_assoc (take (p - 1) text) f d) (take_at a d (q - 1) j ∙ ap (λ (x : List ℕ). x ++ f) v.front);
      size = simp (length-append, length-take, length-drop) (omega arith);
    }

-- all written
pub written_end : (n p : ℕ) (w text : List ℕ) → Written n p w text → n + 1 ≤ p → text ≡ w
written_end n p w text v h = sym (take_all (p - 1) text (omega (arith, v.size))) ∙ v.front
