-- The indexed import beside the import, of any outcomes of both. Assumes nothing.
use Rattle.std.specs.Prelude.{◌≡◌, not, List, [], ◌∷◌, ◌++◌, ℕ, ◌≤◌, ◌<◌, eqb}
use Rattle.std.proofs.Math.Path.{refl, ap}
use Rattle.std.proofs.Common.{sym, ◌∙◌, true≢false}
use Rattle.theory.specs.First.{◌if◌, Decided, first}
use Rattle.theory.specs.Pick.{bad}
use Rattle.theory.specs.laws.First.{decided, numbered, numbered_by, first_passes}
use Rattle.theory.specs.laws.Stopped.{at_stop, number_kept}
use Rattle.slots.specs.Slots.{slots_in}
use Rattle.stops.specs.Stops.{call_stops, file_stops, form_stops, index_short, indexed_form_stops}
use Rattle.imports.specs.Imported.{Imported}
use Rattle.imports.specs.Handed.{Handed}
use Rattle.imports.specs.Import.{judged_stops, stops, timed, import_number, refusal, success}
use Rattle.importer.specs.Promises.{Import}
use Rattle.importer.specs.laws.Outcomes.{import_one}
use Rattle.indexed.specs.Indexed.{indexed_stops, indexed_number}
use Rattle.indexed.specs.Promises.{ImportIndexed}
use Rattle.indexed.specs.laws.Same.{as_import, number_short, number_long}
use Rattle.demands.specs.laws.Imports.{number_is}

module _ (k : ℕ) (f : Handed) (register : List ℕ) (r : Imported) (b g : List ℕ) (o : ImportIndexed k f register r b g) where
  pub is_import : slots_in register ≤ k → Import f register r b g
  is_import l = as_import k f register l r b g o

  pub engines_same : slots_in register ≤ k → (r' : Imported) (b' g' : List ℕ) → Import f register r' b' g' → (r ≡ r') × ((b ≡ b') × (g ≡ g'))
  engines_same l r' b' g' p = import_one f register r r' b b' g g' (is_import l) p

  number_indexed : r.number ≡ indexed_number k f register
  unfolding ImportIndexed success refusal
  number_indexed =
      ap (λ (a : Imported). a.number) o.0
      ∙ number_kept (λ (a : Imported). a.number) (indexed_number k f register) _ _ refl refl

  pub indexed_decided : Decided (call_stops f.mode (timed f) register f.rows ++ (36 if index_short k register) ∷ file_stops f.mode f.rows f.hgv ++ judged_stops f register) r.number
  unfolding indexed_number indexed_stops indexed_form_stops call_stops file_stops judged_stops numbered
  indexed_decided = decided (call_stops f.mode (timed f) register f.rows ++ (36 if index_short k register) ∷ file_stops f.mode f.rows f.hgv ++ judged_stops f register) refl r.number number_indexed

  pub short_refused : k < slots_in register → Decided (call_stops f.mode (timed f) register f.rows ++ (36 if index_short k register) ∷ []) r.number
  unfolding call_stops numbered
  short_refused l = decided (call_stops f.mode (timed f) register f.rows ++ (36 if index_short k register) ∷ []) refl r.number (number_indexed ∙ number_short k f register l)

  pub indexed_refusal : (r.number ≡ 0 → ⊥) → (r ≡ record { number = r.number; taken = 0; rejected = 0; length = 0 }) × ((b ≡ register) × (g ≡ f.hgc))
  unfolding ImportIndexed refusal
  indexed_refusal z =
      let n = number_indexed in (
        o.0 ∙ rw (← n) (at_stop r.number _ _ z),
        (o.1.0 ∙ rw (← n) (at_stop r.number _ _ z), o.1.1 ∙ rw (← n) (at_stop r.number _ _ z)),
      )

  pub step_same : r.number ≡ 0 → Import f register r b g
  step_same z = is_import (number_long k f register (sym number_indexed ∙ z))

pub import_unasked : (f : Handed) (register : List ℕ) (r : Imported) (b g : List ℕ) → Import f register r b g → r.number ≡ 36 → ⊥
unfolding import_number stops form_stops call_stops file_stops judged_stops numbered_by bad
import_unasked f register r b g o e =
    true≢false (sym (first_passes (λ n. not (eqb n 36)) (stops f register) refl (rw number refl)) ∙ rw number refl)
  where
    number : first (stops f register) ≡ 36
    number = sym (number_is f register r b g o) ∙ e
