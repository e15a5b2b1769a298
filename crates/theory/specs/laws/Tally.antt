-- Laws of how many of a list of numbers pass a test, and the count that a walk over them keeps. Assumes nothing.
use Rattle.std.specs.Prelude.{◌≡◌, refl, Bool, List, [], ◌∷◌, ℕ, zero, suc, ◌+◌, ◌≤◌, ◌<◌, length, drop, get_or}
use Rattle.std.proofs.Common.{◌∙◌, add-one, drop_of_length-le}
use native.Mathlib.Omega.{arith}
use Rattle.std.proofs.Math.Seq.{drop-cons}
use Rattle.theory.specs.Count.{bump}
use Rattle.theory.specs.laws.Count.{bump_add}
use Rattle.theory.specs.laws.Keep.{length_onto}
use Rattle.theory.specs.Pick.{good, bad, pick}
use Rattle.theory.specs.Tally.{tally}

-- as many pass as are picked by them
pub tally_pick : {A : Type 0} (p : ℕ → Bool) (vs : List ℕ) (xs : List A) → length vs ≡ length xs → length (pick p vs xs) ≡ tally p vs
unfolding tally pick
tally_pick p [] [] h = refl
tally_pick p [] (x ∷ xs) h = absurd (omega arith)
tally_pick p (v ∷ vs) [] h = absurd (omega arith)
tally_pick p (v ∷ vs) (x ∷ xs) h = length_onto (p v) x (pick p vs xs) ∙ rw (tally_pick p vs xs (omega arith))

-- each is good or bad
pub tallies : (vs : List ℕ) → tally good vs + tally bad vs ≡ length vs
unfolding tally bump good bad
tallies [] = refl
tallies (zero ∷ vs) = let e = tallies vs in omega arith
tallies (suc v ∷ vs) = let e = tallies vs in omega arith

-- ---- a walk: k of those before the place i passed

unfoldable pub Tallied : (ℕ → Bool) → List ℕ → ℕ → ℕ → Type 0
Tallied p vs i k = tally p vs ≡ k + tally p (drop i vs)

module _ (p : ℕ → Bool) (vs : List ℕ) where
  pub tallied_start : Tallied p vs 0 0
  unfolding Tallied
  tallied_start = omega arith

  module _ (i k : ℕ) (t : Tallied p vs i k) where
    -- m counts the number at i where it passed
    pub tallied_turn : i < length vs → (m : ℕ) → m ≡ bump (p (get_or vs i 0)) 0 → Tallied p vs (i + 1) (k + m)
    unfolding Tallied tally
    tallied_turn h m e =
        let s : tally p (drop i vs) ≡ bump (p (get_or vs i 0)) (tally p (drop (i + 1) vs)) = rw (add-one i, drop-cons vs i 0 h) in
        let b : bump (p (get_or vs i 0)) 0 + tally p (drop (i + 1) vs) ≡ bump (p (get_or vs i 0)) (tally p (drop (i + 1) vs)) = bump_add (p (get_or vs i 0)) 0 _ ∙ omega arith in
        omega arith

    pub tallied_end : length vs ≤ i → k ≡ tally p vs
    unfolding Tallied tally
    tallied_end h = let e : tally p (drop i vs) ≡ 0 = rw (drop_of_length-le vs h) in omega arith
