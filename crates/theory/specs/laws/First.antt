-- Laws of rules with numbers, in an order: where none fits, which is the first, and rules behind rules. Assumes
-- nothing.
use Rattle.std.specs.Prelude.{◌≡◌, refl, Bool, true, false, cond, ◌&&◌, List, [], ◌∷◌, ◌++◌, ℕ, zero, suc, ◌≤◌, ◌<◌, eqb, leb, ltb}
use Rattle.std.proofs.Common.{sym, ap, ◌∙◌, arith, leb-true, ltb-true}
use Rattle.std.proofs.lemmas.Bool.{false≢true}
use Rattle.theory.specs.laws.Truth.{and_left, and_right}
use Rattle.theory.specs.Pick.{bad}
use Rattle.theory.specs.First.{Rule, choose, first, None, none, more, Fits, Decided}

-- v is what was chosen by the test t, which is the rule's own, before the answer w of the later rules
pub chosen : (t h : Bool) (n v w w' : ℕ) → v ≡ choose t n w → t ≡ h → w ≡ w' → v ≡ choose h n w'
chosen t h n v w w' e f g = e ∙ rw (f, g)

-- where 0 was chosen and not a number, the test does not hold
pub unchosen : (b : Bool) (n : ℕ) → choose b (suc n) 0 ≡ 0 → b ≡ false
unfolding choose
unchosen true n h = absurd (omega arith)
unchosen false n h = refl

pub first_hit : (r : Rule) (rs : List Rule) → r.fits ≡ true → first (r ∷ rs) ≡ r.number
unfolding first choose
first_hit r rs h = rw h

-- behind rules that do not fit, the next decides
pub first_behind : {rs : List Rule} → None rs → (r : Rule) (qs : List Rule) → r.fits ≡ true → first (rs ++ r ∷ qs) ≡ r.number
unfolding first choose
first_behind none r qs h = first_hit r qs h
first_behind (more e n) r qs h = rw e (first_behind n r qs h)

pub first_none : {rs : List Rule} → None rs → first rs ≡ 0
unfolding first choose
first_none none = refl
first_none (more e n) = rw e (first_none n)

-- every rule has a number of its own, so 0 says that none fits
unfoldable pub numbered : List Rule → Bool
numbered [] = true
numbered (r ∷ rs) = ltb 0 r.number && numbered rs

pub first_clear : (rs : List Rule) → numbered rs ≡ true → first rs ≡ 0 → None rs
unfolding numbered first choose
first_clear [] n h = none
first_clear (r ∷ rs) n h =
    go r.fits refl h (λ k. first_clear rs (and_right (ltb 0 r.number) (numbered rs) n) k) (ltb-true 0 r.number (and_left (ltb 0 r.number) (numbered rs) n))
  where
    go : (b : Bool) → r.fits ≡ b → choose b r.number (first rs) ≡ 0 → (first rs ≡ 0 → None rs) → 0 < r.number → None (r ∷ rs)
    go true e k ih p = absurd (omega arith)
    go false e k ih p = more e (ih k)

-- does the rule with this number fit: so a law that wants one rule of a list names it, and not its place
unfoldable pub fits_at : ℕ → List Rule → Bool
fits_at n [] = false
fits_at n (r ∷ rs) = cond (eqb r.number n) r.fits (fits_at n rs)

pub none_at : (n : ℕ) {rs : List Rule} → None rs → fits_at n rs ≡ false
unfolding fits_at
none_at n none = refl
none_at n (more {r = r} {rs = rs} h hs) = go (eqb r.number n) (none_at n hs)
  where
    go : (b : Bool) → fits_at n rs ≡ false → cond b r.fits (fits_at n rs) ≡ false
    go true k = h
    go false k = k

pub first_fits : (rs : List Rule) (k : ℕ) → first rs ≡ k → (k ≡ 0 → ⊥) → Fits k rs
unfolding first choose
first_fits [] k h n = absurd (n (sym h))
first_fits (r ∷ rs) k h n = go r.fits refl h (λ e. first_fits rs k e n)
  where
    go : (b : Bool) → r.fits ≡ b → choose b r.number (first rs) ≡ k → (first rs ≡ k → Fits k rs) → Fits k (r ∷ rs)
    go true e j ih = record { front = []; rule = r; behind = rs; split = refl; passed = none; fits = e; named = j }
    go false e j ih =
        let f : Fits k rs = ih j in
        record {
          front = r ∷ f.front;
          rule = f.rule;
          behind = f.behind;
          split = ap (λ (qs : List Rule). r ∷ qs) f.split;
          passed = more e f.passed;
          fits = f.fits;
          named = f.named;
        }

pub decided : (rs : List Rule) → numbered rs ≡ true → (n : ℕ) → n ≡ first rs → Decided rs n
decided rs m n e =
    record {
      by = first_fits rs n (sym e);
      clear = λ z. first_clear rs m (sym e ∙ z);
      by_none = λ k. e ∙ first_none k;
    }

-- ---- rules behind rules

-- n, or where that is 0 what the rules behind say
unfoldable pub otherwise : ℕ → ℕ → ℕ
otherwise zero m = m
otherwise (suc n) m = suc n

-- what is not 0 stands
pub otherwise_stands : (m n : ℕ) → (m ≡ 0 → ⊥) → otherwise m n ≡ m
unfolding otherwise
otherwise_stands zero n h = absurd (h refl)
otherwise_stands (suc m) n h = refl

pub otherwise_next : (m n : ℕ) → m ≡ 0 → otherwise m n ≡ n
unfolding otherwise
otherwise_next m n h = rw h

-- 0 only where both are
pub otherwise_none : (m n : ℕ) → otherwise m n ≡ 0 → (m ≡ 0) × (n ≡ 0)
unfolding otherwise
otherwise_none zero n h = (refl, h)
otherwise_none (suc m) n h = absurd (omega arith)

pub first_append : (rs qs : List Rule) → numbered rs ≡ true → first (rs ++ qs) ≡ otherwise (first rs) (first qs)
unfolding first choose numbered otherwise
first_append [] qs n = refl
first_append (r ∷ rs) qs n =
    rw (first_append rs qs (and_right (ltb 0 r.number) (numbered rs) n))
    (go r.fits r.number (ltb-true 0 r.number (and_left (ltb 0 r.number) (numbered rs) n)))
  where
    go : (b : Bool) (k : ℕ) → 0 < k → choose b k (otherwise (first rs) (first qs)) ≡ otherwise (choose b k (first rs)) (first qs)
    go true zero h = absurd (omega arith)
    go true (suc k) h = refl
    go false k h = refl

-- no number is above k
unfoldable pub numbered_to : ℕ → List Rule → Bool
numbered_to k [] = true
numbered_to k (r ∷ rs) = leb r.number k && numbered_to k rs

pub first_most : (k : ℕ) (rs : List Rule) → numbered_to k rs ≡ true → first rs ≤ k
unfolding first choose numbered_to
first_most k [] n = omega arith
first_most k (r ∷ rs) n =
    go r.fits (leb-true r.number k (and_left (leb r.number k) (numbered_to k rs) n)) (first_most k rs (and_right (leb r.number k) (numbered_to k rs) n))
  where
    go : (b : Bool) → r.number ≤ k → first rs ≤ k → choose b r.number (first rs) ≤ k
    go true h m = h
    go false h m = m

-- every rule has a number that passes the test
unfoldable pub numbered_by : (ℕ → Bool) → List Rule → Bool
numbered_by p [] = true
numbered_by p (r ∷ rs) = p r.number && numbered_by p rs

-- so the first that fits has, where one does
pub first_passes : (p : ℕ → Bool) (rs : List Rule) → numbered_by p rs ≡ true → bad (first rs) ≡ true → p (first rs) ≡ true
unfolding numbered_by first choose bad
first_passes p [] n h = absurd (false≢true h)
first_passes p (r ∷ rs) n h =
    go r.fits (and_left (p r.number) (numbered_by p rs) n) (λ k. first_passes p rs (and_right (p r.number) (numbered_by p rs) n) k) h
  where
    go : (b : Bool) → p r.number ≡ true → (bad (first rs) ≡ true → p (first rs) ≡ true)
        → bad (choose b r.number (first rs)) ≡ true → p (choose b r.number (first rs)) ≡ true
    go true e k h = e
    go false e k h = k h
