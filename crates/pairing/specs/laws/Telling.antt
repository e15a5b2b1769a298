-- What the walk keeps that tells the verdicts from marks and reasons: ms are the marks, rs the reasons. Assumes nothing.
use Rattle.std.specs.Prelude.{◌≡◌, refl, Bool, true, false, take, drop, get_or, set}
use Rattle.std.proofs.Math.Path.{sym}
use Rattle.std.proofs.Common.{ap, ◌∙◌, arith, length-drop, length-append, take-suc}
use mathlib.Core.List.{List, [], ◌∷◌, ◌++◌, append_assoc}
use Prim.Native.Nat.{ℕ, zero, suc, ◌+◌, ◌≤◌, ◌<◌}
use Rattle.std.proofs.Math.Numerals.{add-one}
use Rattle.std.proofs.Math.ListN.{length, length-take}
use Rattle.std.proofs.Math.Seq.{take_all, drop-cons, set_at}
use Rattle.theory.specs.Count.{bump}
use Rattle.theory.specs.Pick.{bad}
use Rattle.theory.specs.Tally.{tally}
use Rattle.pairing.specs.Pairing.{told}
use Rattle.pairing.specs.laws.Pairing.{length_told}

-- the verdict of a line with the mark m, in front of which k lines are left
unfoldable pub told_at : ℕ → List ℕ → ℕ → ℕ
told_at zero rs k = 0
told_at (suc m) rs k = get_or rs k 0

pub told_taken : (m : ℕ) (rs : List ℕ) (k : ℕ) → m ≡ 0 → 0 ≡ told_at m rs k
unfolding told_at
told_taken m rs k e = rw e

pub told_left : (m : ℕ) (rs : List ℕ) (k : ℕ) → (m ≡ 0 → ⊥) → told_at m rs k ≡ get_or rs k 0
unfolding told_at
told_left zero rs k n = absurd (n refl)
told_left (suc m) rs k n = refl

-- one line more
told_next : (ms rs : List ℕ) (m : ℕ) → told (ms ++ m ∷ []) rs ≡ told ms rs ++ told_at m rs (tally bad ms) ∷ []
unfolding told told_at tally bad bump
told_next [] rs zero = refl
told_next [] [] (suc m) = refl
told_next [] (r ∷ rs) (suc m) = refl
told_next (zero ∷ ms) rs m = ap (λ (vs : List ℕ). 0 ∷ vs) (told_next ms rs m)
told_next (suc n ∷ ms) [] zero = ap (λ (vs : List ℕ). 0 ∷ vs) (told_next ms [] zero)
told_next (suc n ∷ ms) [] (suc m) = ap (λ (vs : List ℕ). 0 ∷ vs) (told_next ms [] (suc m) ∙ rw (none (tally bad ms)))
  where
    none : (k : ℕ) → get_or {A = ℕ} [] k 0 ≡ 0
    none zero = refl
    none (suc k) = refl
told_next (suc n ∷ ms) (r ∷ rs) zero = ap (λ (vs : List ℕ). r ∷ vs) (told_next ms rs zero)
told_next (suc n ∷ ms) (r ∷ rs) (suc m) = ap (λ (vs : List ℕ). r ∷ vs) (told_next ms rs (suc m))

bump_sum : (b : Bool) (m n : ℕ) → bump b (m + n) ≡ bump b m + n
unfolding bump
bump_sum true m n = omega arith
bump_sum false m n = refl

tally_next : (ms : List ℕ) (m : ℕ) → tally bad (ms ++ m ∷ []) ≡ tally bad ms + bump (bad m) 0
unfolding tally
tally_next [] m = omega arith
tally_next (n ∷ ms) m = rw (tally_next ms m) (bump_sum (bad n) (tally bad ms) (bump (bad m) 0))

bad_no : (v : ℕ) → (v ≡ 0 → ⊥) → bad v ≡ true
unfolding bad
bad_no zero n = absurd (n refl)
bad_no (suc v) n = refl

-- no more are left in front of a place than there are
tally_take : (ms : List ℕ) (i : ℕ) → tally bad (take i ms) ≤ tally bad ms
unfolding tally bump
tally_take [] zero = omega arith
tally_take [] (suc i) = omega arith
tally_take (n ∷ ms) zero = omega arith
tally_take (n ∷ ms) (suc i) = go (bad n) (tally_take ms i)
  where
    go : (b : Bool) → tally bad (take i ms) ≤ tally bad ms → bump b (tally bad (take i ms)) ≤ bump b (tally bad ms)
    go true h = omega arith
    go false h = h

-- the verdicts in front of the place i are told, k lines are left there, and us is the block as it was
unfoldable pub Telling : List ℕ → List ℕ → List ℕ → ℕ → ℕ → List ℕ → Type 0
Telling ms rs us i k vs = (k ≡ tally bad (take i ms)) × (vs ≡ told (take i ms) rs ++ drop i us)

module _ (ms rs us : List ℕ) where
  pub telling_start : Telling ms rs us 0 0 us
  unfolding Telling told tally
  telling_start = (refl, refl)

  module _ (i k : ℕ) (vs : List ℕ) (t : Telling ms rs us i k vs) where
    pub telling_length : i ≤ length ms → i ≤ length us → length vs ≡ length us
    unfolding Telling
    telling_length a b =
        rw t.1
        (simp (length-append, length-drop) (omega (arith, length_told (take i ms) rs, length-take i ms)))

    -- where the line at i is left, a reason is left for it
    -- the marks up to the place i
    front : i < length ms → take (i + 1) ms ≡ take i ms ++ get_or ms i 0 ∷ []
    front a = rw (add-one i) (take-suc ms i 0 a)

    count : i < length ms → tally bad (take (i + 1) ms) ≡ k + bump (bad (get_or ms i 0)) 0
    unfolding Telling
    count a = rw (front a, t.0) (tally_next (take i ms) (get_or ms i 0))

    pub telling_room : i < length ms → (get_or ms i 0 ≡ 0 → ⊥) → k < tally bad ms
    unfolding bump
    telling_room a n = let e : bump (bad (get_or ms i 0)) 0 ≡ 1 = rw (bad_no (get_or ms i 0) n) in omega (arith, tally_take ms (i + 1), count a)

    pub telling_turn : i < length ms → i < length us → (v : ℕ) → v ≡ told_at (get_or ms i 0) rs k → (k' : ℕ) → k' ≡ k + bump (bad (get_or ms i 0)) 0
        → (vs' : List ℕ) → vs' ≡ set vs i v → Telling ms rs us (i + 1) k' vs'
    unfolding Telling
    telling_turn a b v e k' f vs' g =
        let p : List ℕ = told (take i ms) rs in
        let l : length p ≡ i = length_told (take i ms) rs ∙ omega (arith, length-take i ms) in (
          f ∙ sym (count a),
          rw (g, t.1, drop-cons us i 0 b, set_at p (get_or us i 0) (drop (suc i) us) v i l, front a, told_next (take i ms) rs (get_or ms i 0), ← t.0, ← e, add-one i)
              (sym (append_assoc p (v ∷ []) (drop (suc i) us))),
        )

    pub telling_end : i ≡ length ms → vs ≡ told ms rs ++ drop (length ms) us
    unfolding Telling
    telling_end h = t.1 ∙ rw (h, take_all (length ms) ms (omega arith))
