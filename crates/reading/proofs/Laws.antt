-- What the functions of this crate cite. Assumes nothing.
use mathlib.Core.Path.{◌≡◌, refl, sym, ap, ◌∙◌}
use mathlib.Core.Bool.{Bool, true, false, ◌||◌, false≢true}
use mathlib.Core.List.{List, [], map}
use Prim.Native.Nat.{ℕ, zero, suc, ◌+◌, ◌-◌, ◌≤◌, ◌<◌}
use native.Mathlib.Omega.{arith}
use lib.Dec.{leb}
use lib.ListN.{get_or, get_or-map}
use lib.Seq.{take-nil, drop-nil}
use borrow.Author.Tests.{leb-true}
use Rattle.theory.specs.Text.{bytes}
use Rattle.theory.specs.Same.{eqs, mem}
use Rattle.theory.specs.laws.Same.{eqs_true}
use Rattle.theory.specs.Count.{bump}
use Rattle.theory.specs.Each.{Each, none, more}
use Rattle.theory.specs.laws.Each.{each_at}
use Rattle.theory.specs.Walk.{each}
use Rattle.theory.specs.laws.Walk.{each_passes}
use Rattle.theory.specs.Parts.{chop, part_at}
use Rattle.theory.specs.laws.Parts.{length_chop}
use Rattle.theory.specs.laws.Join.{get_d_chop}
use Rattle.theory.specs.Pick.{bad}
use Rattle.texts.specs.declared.parts.Parts.{Parts}
use Rattle.texts.specs.Field.{field, listed}
use Rattle.numbers.specs.Number.{number_after, number}
use Rattle.hgv.specs.Layout.{width_of}
use Rattle.hgc.specs.Confirmation.{answer_length}
use Rattle.pairing.specs.laws.Telling.{told_at, told_left}
use Rattle.answers.specs.Layout.{answers_in, behind_head, answers_of, reason_of}
use Rattle.receipts.specs.Receipt.{reason_holds}
use Rattle.reading.specs.ReadBack.{reasons_of}
use Rattle.answers.specs.Promises.{Lines}
use Rattle.answers.specs.laws.Layout.{lines_are}

-- ---- a reason

one_of : {p : List ℕ → Type 0} (t : List ℕ) {xs : List (List ℕ)} → Each p xs → mem t xs ≡ true → p t
unfolding mem
one_of t none h = absurd (false≢true h)
one_of {p} t (more {x = x} {xs = xs} k ks) h = go (eqs t x) refl h (λ i. one_of t ks i)
  where
    go : (b : Bool) → eqs t x ≡ b → b || mem t xs ≡ true → (mem t xs ≡ true → p t) → p t
    go true e i ih = rw (eqs_true t x e) k
    go false e i ih = ih i

-- none that an HGC may name is above 12
reason_most : (w : ℕ) (a : List ℕ) → reason_holds w a ≡ true → number (reason_of w a) ≤ 12
unfolding reason_holds listed chop each number number_after
reason_most w a h = leb-true (number (reason_of w a)) 12 (one_of (reason_of w a) (each_passes (λ t. leb (number t) 12) (chop 2 9 (bytes "010203040506080912")) few) h)
  where
    few : each (λ t. leb (number t) 12) (chop 2 9 (bytes "010203040506080912")) ≡ true
    few = refl

reason_none : (w : ℕ) → number (reason_of w []) ≡ 0
unfolding field number number_after
reason_none w = rw (drop-nil {A = ℕ} (w - 1), take-nil {A = ℕ} (w + 1 + 1 - w))

-- the line at the place k, as the code has it
module _ (h g : List ℕ) (lines : Parts) (e : Lines h g lines) (k : ℕ) (l : k < lines.count)
    (a f : List ℕ) (w : ℕ) (ea : a ≡ part_at lines.width k lines.block.now) (ew : w ≡ width_of h) (ef : f ≡ field w (w + 2 - 1) a) (n : ℕ) (en : n ≡ number f) where
  line_is : a ≡ get_or (answers_of h g) k []
  line_is = ea ∙ sym (rw (← lines_are h g lines e) (get_d_chop lines.width lines.count lines.block.now k l))

  value : n ≡ number (reason_of (width_of h) (get_or (answers_of h g) k []))
  value = let z : width_of h + 2 - 1 ≡ width_of h + 1 = omega arith in en ∙ ap number (ef ∙ rw (line_is, ew, z))

  pub reason_fits : each (reason_holds (width_of h)) (answers_of h g) ≡ true → n ≤ 12
  unfolding answers_of
  reason_fits q = rw value (reason_most _ _ (each_at (each_passes (reason_holds (width_of h)) (answers_of h g) q) k [] (omega (arith, e.2, length_chop (answer_length (width_of h)) (answers_in h g) (behind_head g)))))

  pub reason_told : (m : ℕ) → (m ≡ 0 → ⊥) → n ≡ told_at m (reasons_of h g) k
  unfolding reasons_of
  reason_told m z =
      let f : List ℕ → ℕ = λ a. number (reason_of (width_of h) a) in
      value ∙ sym (told_left m (reasons_of h g) k z ∙ ap (λ (x : ℕ). get_or (map f (answers_of h g)) k x) (sym (reason_none (width_of h))) ∙ get_or-map f (answers_of h g) k [])

-- ---- the mark of a line that is left

pub left_none : (m : ℕ) → m ≡ 0 → 0 ≡ bump (bad m) 0
unfolding bump bad
left_none m e = rw e

pub left_one : (m : ℕ) → (m ≡ 0 → ⊥) → 1 ≡ bump (bad m) 0
unfolding bump bad
left_one zero z = absurd (z refl)
left_one (suc m) z = refl
