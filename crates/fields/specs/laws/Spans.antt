-- A table of positions, the field or rule that fixes them and the bytes that it admits there: where it has no gap, what is
-- held span by span is held position by position. Assumes nothing.
use Rattle.std.specs.Prelude.{◌≡◌, Bool, ◌&&◌, ◌||◌, eqb, take}
use Rattle.std.proofs.Math.Path.{refl}
use Rattle.std.proofs.Common.{sym, ◌∙◌}
use Rattle.std.proofs.Math.Bool.{true, false}
use mathlib.Core.List.{List, [], ◌∷◌, map}
use Prim.Native.Nat.{ℕ, ◌+◌, ◌-◌, ◌≤◌}
use native.Mathlib.Omega.{arith}
use Rattle.std.proofs.Math.Dec.{leb}
use Rattle.std.proofs.Math.ListN.{length, drop, get_or}
use Rattle.std.proofs.Math.Seq.{get_or-take, get_or-drop}
use borrow.Author.Tests.{eqb-true, leb-true, leb-false, le-leb}
use Rattle.theory.specs.laws.Truth.{and_split, or_true}
use Rattle.theory.specs.Same.{eqs}
use Rattle.theory.specs.laws.Same.{eqs_true}
use Rattle.theory.specs.Each.{Each, none, more}
use Rattle.theory.specs.laws.Each.{each_head, each_tail, each_map, each_both}
use Rattle.theory.specs.Every.{all, run}
use Rattle.theory.specs.laws.Every.{run_length, run_all, all_at, run_wider, run_append}
use Rattle.texts.specs.Field.{field}
use Rattle.texts.specs.laws.Field.{field_most, field_split, field_field}
use Rattle.fields.specs.Field.{between, blank}

-- positions `from` to `to`, the rule that fixes them, and the bytes that it admits there
pub record Span : Type 0 where
  pub from : ℕ
  pub to : ℕ
  pub rule : List ℕ → Bool
  pub admits : ℕ → Bool

abbrev pub span : ℕ → ℕ → (List ℕ → Bool) → (ℕ → Bool) → Span
span from to rule admits = record { from = from; to = to; rule = rule; admits = admits }

abbrev pub or_blank : (ℕ → Bool) → ℕ → Bool
or_blank p b = p b || blank b

-- one of these characters
unfoldable pub one_of : List ℕ → ℕ → Bool
one_of [] b = false
one_of (x ∷ xs) b = eqb b x || one_of xs b

-- the spans go from the position a to b, without gap or overlap
unfoldable pub cover : ℕ → ℕ → List Span → Bool
cover a b [] = eqb a (b + 1)
cover a b (r ∷ rs) = eqb a r.from && leb a r.to && cover (r.to + 1) b rs

-- a span lies at a position, and admits this byte there
unfoldable pub admitted : List Span → ℕ → ℕ → Bool
admitted [] p b = false
admitted (r ∷ rs) p b = between r.from r.to p && r.admits b || admitted rs p b

-- the span's positions are all there, and what stands in them is admitted
abbrev pub Held : List ℕ → Span → Type 0
Held l r = run r.admits (r.to + 1 - r.from) (field r.from r.to l) ≡ true

-- the span's rule holds only where the span is held
abbrev pub Fixes : List ℕ → Span → Type 0
Fixes l r = r.rule l ≡ true → Held l r

-- so where all rules of a table hold, all its spans are held
pub spans_held : {l : List ℕ} {rs : List Span} → Each (λ r. r.rule l ≡ true) rs → Each (Fixes l) rs → Each (Held l) rs
spans_held h k = each_map (λ r x. x.1 x.0) (each_both h k)

-- a rule that fixes all spans of a table
pub one_rule : {l : List ℕ} (rule : List ℕ → Bool) {rs : List Span} → Each (λ r. r.rule l ≡ rule l) rs → (rule l ≡ true → Each (Held l) rs) → Each (Fixes l) rs
one_rule rule none f = none
one_rule rule (more e es) f = more (λ h. each_head (f (sym e ∙ h))) (one_rule rule es (λ h. each_tail (f h)))

-- a text that stands there
pub same_held : (p : ℕ → Bool) (n : ℕ) (f t : List ℕ) → run p n t ≡ true → eqs f t ≡ true → run p n f ≡ true
same_held p n f t h e = rw (eqs_true f t e) h

-- a cover ends where it has to, and no span of it goes further
cover_most : (rs : List Span) (a b : ℕ) → cover a b rs ≡ true → a ≤ b + 1
unfolding cover
cover_most [] a b c = omega (arith, eqb-true a (b + 1) c)
cover_most (r ∷ rs) a b c =
    let s₂ = and_split (eqb a r.from && leb a r.to) (cover (r.to + 1) b rs) c in
    let s₁ = and_split (eqb a r.from) (leb a r.to) s₂.0 in
    omega (arith, leb-true a r.to s₁.1, cover_most rs (r.to + 1) b s₂.1)

-- a span k positions further on
abbrev pub moved : ℕ → Span → Span
moved k r = span (k + r.from) (k + r.to) r.rule r.admits

module _ (l : List ℕ) where
  -- ---- a field that has spans of its own, behind position k

  moved_held : (k c : ℕ) (r : Span) → 1 ≤ r.from → r.to ≤ c → Held (field (k + 1) (k + c) l) r → Held l (moved k r)
  moved_held k c r o m h =
      let w : k + r.to + 1 - (k + r.from) ≡ r.to + 1 - r.from = omega arith in
      let a : k + 1 - 1 + r.from ≡ k + r.from = omega arith in
      let b : k + 1 - 1 + r.to ≡ k + r.to = omega arith in
      rw w (rw (field_field r.from r.to (k + 1) (k + c) l o (omega arith) (omega arith), a, b) at h)

  -- a span of a text that stands behind position k
  pub text_held : (k c : ℕ) (t : List ℕ) (r : Span) → 1 ≤ r.from → r.to ≤ c → Held t r → eqs (field (k + 1) (k + c) l) t ≡ true → Held l (moved k r)
  text_held k c t r o m h e = moved_held k c r o m (rw (eqs_true (field (k + 1) (k + c) l) t e) h)

  pub each_moved : (k a c : ℕ) (rs : List Span) → 1 ≤ a → cover a c rs ≡ true → Each (Held (field (k + 1) (k + c) l)) rs → Each (Held l) (map (moved k) rs)
  unfolding cover
  each_moved k a c [] o e none = none
  each_moved k a c (r ∷ rs) o e (more h hs) =
      let s₂ = and_split (eqb a r.from && leb a r.to) (cover (r.to + 1) c rs) e in
      let s₁ = and_split (eqb a r.from) (leb a r.to) s₂.0 in
      let f : a ≡ r.from = eqb-true a r.from s₁.0 in
      let m : r.to ≤ c = omega (arith, cover_most rs (r.to + 1) c s₂.1) in
      more (moved_held k c r (omega arith) m h) (each_moved k (r.to + 1) c rs (omega arith) s₂.1 hs)

  -- ---- position by position

  held_at : (r : Span) (p : ℕ) → Held l r → 1 ≤ r.from → r.from ≤ p → p ≤ r.to → r.admits (get_or l (p - 1) 0) ≡ true
  unfolding field
  held_at r p h o a b =
      let n : ℕ = r.to + 1 - r.from in
      let i : ℕ = p - r.from in
      let d : List ℕ = drop (r.from - 1) l in
      let k : r.from - 1 + i ≡ p - 1 = omega arith in
      let e : get_or (take n d) i 0 ≡ get_or l (p - 1) 0 = get_or-take n d i 0 (omega arith) ∙ get_or-drop (r.from - 1) l i 0 ∙ rw k in
      rw e at (all_at r.admits (take n d) i (run_all r.admits n (take n d) h) (omega (arith, run_length r.admits n (take n d) h)))

  -- the byte at each position is one that the table admits there
  pub covered_at : (rs : List Span) (a b p : ℕ) → 1 ≤ a → cover a b rs ≡ true → Each (Held l) rs → a ≤ p → p ≤ b → admitted rs p (get_or l (p - 1) 0) ≡ true
  unfolding cover admitted
  covered_at [] a b p o c hs x y = absurd (omega (arith, eqb-true a (b + 1) c))
  covered_at (r ∷ rs) a b p o c (more h hs) x y =
      let s₂ = and_split (eqb a r.from && leb a r.to) (cover (r.to + 1) b rs) c in
      let s₁ = and_split (eqb a r.from) (leb a r.to) s₂.0 in
      let e₁ : a ≡ r.from = eqb-true a r.from s₁.0 in
      let e₂ : a ≤ r.to = leb-true a r.to s₁.1 in
      go (leb p r.to) (get_or l (p - 1) 0) refl (omega arith) (held_at r p h (omega arith) (omega arith))
      (λ k. covered_at rs (r.to + 1) b p (omega arith) s₂.1 hs k y)
    where
      go : (t : Bool) (v : ℕ) → leb p r.to ≡ t → r.from ≤ p → (p ≤ r.to → r.admits v ≡ true) → (r.to + 1 ≤ p → admitted rs p v ≡ true)
          → between r.from r.to p && r.admits v || admitted rs p v ≡ true
      go true v e j now later = rw (le-leb r.from p j, e, now (leb-true p r.to e))
      go false v e j now later = or_true (between r.from r.to p && r.admits v) (admitted rs p v) (later (omega (arith, leb-false p r.to e)))

  -- ---- positions that all hold bytes of one kind

  pub spans_run : (q : ℕ → Bool) (rs : List Span) (a b : ℕ) → 1 ≤ a → cover a b rs ≡ true → Each (λ r. Held l r × ((x : ℕ) → r.admits x ≡ true → q x ≡ true)) rs
      → run q (b + 1 - a) (field a b l) ≡ true
  unfolding cover run all
  spans_run q [] a b o c none =
      let w : b + 1 - a ≡ 0 = omega (arith, eqb-true a (b + 1) c) in
      rw w (nothing (field a b l) (omega (arith, field_most a b l)))
    where
      nothing : (f : List ℕ) → length f ≤ 0 → run q 0 f ≡ true
      nothing [] h = refl
      nothing (x ∷ f) h = absurd (omega arith)
  spans_run q (r ∷ rs) a b o c (more (h, g) hs) =
      let s₂ = and_split (eqb a r.from && leb a r.to) (cover (r.to + 1) b rs) c in
      let s₁ = and_split (eqb a r.from) (leb a r.to) s₂.0 in
      let e : a ≡ r.from = eqb-true a r.from s₁.0 in
      let n : a ≤ r.to = leb-true a r.to s₁.1 in
      let rest = spans_run q rs (r.to + 1) b (omega arith) s₂.1 hs in
      let m : r.to ≤ b = omega (arith, cover_most rs (r.to + 1) b s₂.1) in
      let w : b + 1 - a ≡ (r.to + 1 - a) + (b + 1 - (r.to + 1)) = omega arith in
      let here : run q (r.to + 1 - a) (field a r.to l) ≡ true = rw e (run_wider r.admits q g (r.to + 1 - r.from) (field r.from r.to l) h) in
      rw (w, field_split a b r.to l o n m) (run_append q (r.to + 1 - a) (b + 1 - (r.to + 1)) (field a r.to l) (field (r.to + 1) b l) here rest)
