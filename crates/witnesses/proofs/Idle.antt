-- The four idle builds are shut out: whatever meets the contract of `import` does not always stop, does not answer the same HGC to all
-- files, does not leave the register unwritten, and does not import the first file alone. Assumes nothing.
use Rattle.std.specs.Prelude.{◌≡◌, refl, false, List, ℕ, take}
use Rattle.std.proofs.Common.{sym, ap, ◌∙◌, true≢false}
use Rattle.theory.specs.Same.{eqs}
use Rattle.theory.specs.laws.Same.{eqs_refl}
use Rattle.imports.specs.Imported.{Imported}
use Rattle.imports.specs.Promises.{ImportJudged}
use Rattle.imports.proofs.Shown.{zero_as}
use Rattle.imports.specs.Handed.{Handed}
use Rattle.demands.specs.History.{empty}
use Rattle.witnesses.specs.Files as files
use Rattle.witnesses.specs.Computed.{with, answer_to, after, buffer_after, held₁, held₂, Single, computed}
use Rattle.witnesses.specs.Idle.{Build, Meets}

-- two texts that differ are not the same
differ : (a b : List ℕ) → eqs a b ≡ false → a ≡ b → ⊥
differ a b d e = true≢false (sym (eqs_refl b) ∙ (rw e at d))

module _ (build : Build) (meets : Meets build) where
  facts : Single
  facts = computed.0

  -- what it makes of a file is what the contract says
  answer_is : (h register : List ℕ) → (build (with 1 h) register).answer ≡ answer_to register (with 1 h)
  unfolding ImportJudged
  answer_is h register = (meets (with 1 h) register).0 ∙ (zero_as (with 1 h) register refl).answer

  register_is : (h register : List ℕ) → (build (with 1 h) register).register ≡ after register (with 1 h)
  unfolding ImportJudged
  register_is h register = (meets (with 1 h) register).1.0 ∙ (zero_as (with 1 h) register refl).after

  hgc_is : (h register : List ℕ) → (build (with 1 h) register).hgc ≡ buffer_after register (with 1 h)
  unfolding ImportJudged
  hgc_is h register = (meets (with 1 h) register).1.1 ∙ (zero_as (with 1 h) register refl).buffer

  number_0 : (h : List ℕ) (r : Imported) → answer_to (empty 1) (with 1 h) ≡ r → r.number ≡ 0 → (build (with 1 h) (empty 1)).answer.number ≡ 0
  number_0 h r e z = ap (λ (a : Imported). a.number) (answer_is h (empty 1) ∙ e) ∙ z

  -- it does not always stop
  pub not_always_stopping : ((f : Handed) (register : List ℕ) → (build f register).answer.number ≡ 0 → ⊥) → ⊥
  not_always_stopping stops = stops (with 1 files.good) (empty 1) (number_0 files.good _ facts.good_answer refl)

  -- it does not answer the same HGC to all files
  pub not_one_hgc : (hgc : List ℕ) → ((f : Handed) (register : List ℕ) → (build f register).answer.number ≡ 0 → take (build f register).answer.length (build f register).hgc ≡ hgc) → ⊥
  not_one_hgc hgc same =
      let told : (h : List ℕ) (r : Imported) → answer_to (empty 1) (with 1 h) ≡ r → r.number ≡ 0 → take r.length (buffer_after (empty 1) (with 1 h)) ≡ hgc =
      λ h r e z. rw (← hgc_is h (empty 1), ← e, ← answer_is h (empty 1)) (same (with 1 h) (empty 1) (number_0 h r e z)) in
      differ files.whole files.bad_hgc facts.different
      (sym facts.empty_hgc ∙ told files.empty _ facts.empty_answer refl ∙ sym (told files.bad _ facts.bad_answer refl) ∙ facts.bad_hgc_lem)

  -- it does not leave the register unwritten
  pub not_unwritten : ((f : Handed) (register : List ℕ) → (build f register).register ≡ register) → ⊥
  not_unwritten stays =
      differ held₁ held₂ facts.both_different
      (sym (stays (with 1 files.next) held₁) ∙ register_is files.next held₁ ∙ facts.both_register)

  -- it does not import the first file alone, and leave the register as it is from then on
  pub not_first_alone : ((n : ℕ) (f f' : Handed) → (build f' (build f (empty n)).register).register ≡ (build f (empty n)).register) → ⊥
  not_first_alone first =
      let once : (build (with 1 files.good) (empty 2)).register ≡ held₁ = register_is files.good (empty 2) ∙ facts.first_register in
      let again : (build (with 1 files.next) held₁).register ≡ held₁ =
      rw (← once) (first 2 (with 1 files.good) (with 1 files.next)) in
      differ held₁ held₂ facts.both_different
      (sym again ∙ register_is files.next held₁ ∙ facts.both_register)
