-- What any outcome of an import has: at a stop zero counts, and every lent byte as it was; at 0 what the definitions say. Assumes nothing.
use Rattle.std.specs.Prelude.{◌≡◌, List}
use Rattle.std.proofs.Math.Path.{refl, sym, ap}
use Rattle.std.proofs.Common.{◌∙◌, arith}
use Prim.Native.Nat.{ℕ, zero, suc, ◌≤◌, ◌<◌}
use Rattle.theory.specs.First.{Rule, Decided, None, first}
use Rattle.theory.specs.laws.First.{decided, numbered, numbered_to, otherwise, first_append, first_clear, first_most}
use Rattle.theory.specs.laws.Stopped.{number_kept}
use Rattle.stops.specs.Stops.{call_stops, file_stops, form_stops, form_stop}
use Rattle.stops.specs.laws.Clear.{clear}
use Rattle.imports.specs.Imported.{Imported}
use Rattle.imports.specs.Import.{judged_stops, stops, import_number, refusal, success, register_written, hgc_written, import_answer, timed}
use Rattle.importer.specs.Promises.{Import}
use Rattle.imports.specs.Promises.{ImportJudged}
use Rattle.imports.specs.laws.Numbers.{Formed, stop_answer, stop_register, stop_hgc, done_answer, done_register, done_hgc}
use Rattle.imports.specs.Handed.{Handed}

module _ (f : Handed) (register : List ℕ) (r : Imported) (b g : List ℕ) (o : Import f register r b g) where
  -- the number answered is that of the first stop that holds
  pub number_is : r.number ≡ import_number f register
  unfolding ImportJudged import_answer success refusal
  number_is =
      ap (λ (a : Imported). a.number) o.0
      ∙ number_kept (λ (a : Imported). a.number) (import_number f register) _ _ refl refl

  -- and where it is 0 none does
  pub number_decided : Decided (stops f register) r.number
  unfolding import_number stops form_stops call_stops file_stops judged_stops numbered
  number_decided = decided (stops f register) refl r.number number_is

  -- ---- a number behind the stops of form

  abbrev fs : List Rule
  fs = form_stops f.mode (timed f) register f.rows f.hgv

  module _ (k : ℕ) (l : 32 < k) (e : r.number ≡ k) where
    -- none of them has it
    form_passed : (first fs ≡ 0) × (first (judged_stops f register) ≡ k)
    unfolding import_number stops form_stops call_stops file_stops numbered numbered_to otherwise
    form_passed = go (first fs) (first (judged_stops f register)) (first_most 32 fs refl) (sym (first_append fs (judged_stops f register) refl) ∙ sym number_is ∙ e)
      where
        go : (m n : ℕ) → m ≤ 32 → otherwise m n ≡ k → (m ≡ 0) × (n ≡ k)
        go zero n d h = (refl, h)
        go (suc m) n d h = absurd (omega arith)

    pub judged_number : first (judged_stops f register) ≡ k
    judged_number = form_passed.1

    pub form_none : None fs
    unfolding form_stops call_stops file_stops numbered
    form_none = first_clear fs refl form_passed.0

    pub form_clear : Formed f register
    unfolding form_stop
    form_clear = clear f.mode (timed f) register f.rows f.hgv form_passed.0

  -- ---- a stop

  module _ (k : r.number ≡ 0 → ⊥) where
    pub refused_answer : r ≡ refusal r.number
    unfolding ImportJudged
    refused_answer = o.0 ∙ sym (stop_answer f register r.number number_is k)

    pub refused_register : b ≡ register
    unfolding ImportJudged
    refused_register = o.1.0 ∙ sym (stop_register f register r.number number_is k)

    pub refused_hgc : g ≡ f.hgc
    unfolding ImportJudged
    refused_hgc = o.1.1 ∙ sym (stop_hgc f register r.number number_is k)

    pub refusal_is : (r ≡ record { number = r.number; taken = 0; rejected = 0; length = 0 }) × ((b ≡ register) × (g ≡ f.hgc))
    unfolding refusal
    refusal_is = (refused_answer, (refused_register, refused_hgc))

  -- ---- success

  module _ (z : r.number ≡ 0) where
    pub number_0 : import_number f register ≡ 0
    number_0 = sym number_is ∙ z

    pub done_is : r ≡ success f register
    unfolding ImportJudged
    done_is = o.0 ∙ sym (done_answer f register number_0)

    pub register_is : b ≡ register_written f register
    unfolding ImportJudged
    register_is = o.1.0 ∙ sym (done_register f register number_0)

    pub hgc_is : g ≡ hgc_written f register
    unfolding ImportJudged
    hgc_is = o.1.1 ∙ sym (done_hgc f register number_0)
