-- Laws of a test over the parts of a block, each of which passes, or some; and how a walk finds out. Assumes nothing.
use Rattle.std.specs.Prelude.{◌≡◌, refl, Bool, true, false, ◌||◌, List, [], ◌∷◌, ◌++◌, ℕ, ◌+◌, ◌≤◌, ◌<◌}
use Rattle.std.proofs.Math.Path.{sym}
use Rattle.std.proofs.Common.{◌∙◌}
use Rattle.theory.specs.laws.Truth.{and_left, and_right, or_assoc, or_false}
use Rattle.theory.specs.Each.{Each, none, more}
use Rattle.theory.specs.Parts.{chop, part_at}
use Rattle.theory.specs.laws.Parts.{parts_from, parts_start, parts_step, parts_end}
use Rattle.theory.specs.Walk.{each, some}

-- the test, and what it says of each
pub each_passes : (q : List ℕ → Bool) (xs : List (List ℕ)) → each q xs ≡ true → Each (λ x. q x ≡ true) xs
unfolding each
each_passes q [] h = none
each_passes q (x ∷ xs) h = more (and_left (q x) (each q xs) h) (each_passes q xs (and_right (q x) (each q xs) h))

pub passes_each : (q : List ℕ → Bool) {xs : List (List ℕ)} → Each (λ x. q x ≡ true) xs → each q xs ≡ true
unfolding each
passes_each q none = refl
passes_each q (more h hs) = rw h (passes_each q hs)

pub some_append : (q : List ℕ → Bool) (xs ys : List (List ℕ)) → some q (xs ++ ys) ≡ some q xs || some q ys
unfolding some
some_append q [] ys = refl
some_append q (x ∷ xs) ys = rw (some_append q xs ys) (sym (or_assoc (q x) (some q xs) (some q ys)))

-- what is left decides
unfoldable pub EachFrom : (List ℕ → Bool) → ℕ → ℕ → List ℕ → ℕ → Type 0
EachFrom q w n b i = each q (chop w n b) ≡ each q (parts_from w n i b)

-- what was found, or what is left
unfoldable pub SomeFrom : (List ℕ → Bool) → ℕ → ℕ → List ℕ → ℕ → Bool → Type 0
SomeFrom q w n b i found = some q (chop w n b) ≡ found || some q (parts_from w n i b)

module _ (q : List ℕ → Bool) (w n : ℕ) (b : List ℕ) where
  pub each_start : EachFrom q w n b 0
  unfolding EachFrom
  each_start = rw (parts_start w n b)

  pub some_start : SomeFrom q w n b 0 false
  unfolding SomeFrom
  some_start = rw (parts_start w n b)

  module _ (i : ℕ) where
    module _ (v : EachFrom q w n b i) where
      pub each_end : n ≤ i → each q (chop w n b) ≡ true
      unfolding EachFrom each
      each_end h = v ∙ rw (parts_end w n b i h)

      -- x is the part, and r what the test said of it
      module _ (h : i < n) (x : List ℕ) (p : x ≡ part_at w i b) (r : Bool) (e : r ≡ q x) where
        pub each_on : r ≡ true → EachFrom q w n b (i + 1)
        unfolding EachFrom each
        each_on t = v ∙ rw (parts_step w n b i h, ← p, ← e, t)

        pub each_off : r ≡ false → each q (chop w n b) ≡ false
        unfolding EachFrom each
        each_off t = v ∙ rw (parts_step w n b i h, ← p, ← e, t)

    module _ (found : Bool) (v : SomeFrom q w n b i found) where
      pub some_end : n ≤ i → found ≡ some q (chop w n b)
      unfolding SomeFrom some
      some_end h = sym (v ∙ rw (parts_end w n b i h) (or_false found))

      pub some_turn : i < n → (x : List ℕ) → x ≡ part_at w i b → (r : Bool) → r ≡ q x → SomeFrom q w n b (i + 1) (found || r)
      unfolding SomeFrom some
      some_turn h x p r e = v ∙ rw (parts_step w n b i h, ← p, ← e) (sym (or_assoc found r (some q (parts_from w n (i + 1) b))))
