-- Request 10: large files in the morning window. Each sentence of it, and under it the theorems that say so, of any outcome that the
-- contracts of both imports admit. Assumes nothing.
use Rattle.std.specs.Prelude.{◌≡◌, refl, List, [], ◌∷◌, ◌++◌, ℕ, ◌≤◌, ◌<◌}
use Rattle.theory.specs.First.{◌if◌, Decided}
use Rattle.slots.specs.Slots.{slots_in}
use Rattle.offsets.specs.Offset.{reception_holds}
use Rattle.stops.specs.Stops.{call_stops, file_stops, index_short}
use Rattle.imports.specs.Imported.{Imported}
use Rattle.imports.specs.Handed.{Handed}
use Rattle.imports.specs.Import.{judged_stops}
use Rattle.importer.specs.Promises.{Import}
use Rattle.indexed.specs.Promises.{ImportIndexed}
use Rattle.demands.specs.History.{Event, Ours}
use Rattle.demands.specs.laws.Indexed as laws

-- "Let the caller lend an index of 16-bit slot numbers, in any state, and use it." Of the index the contract knows how many numbers it has,
-- k, and nothing else. It takes every one, of every length, and ends: whatever is handed over there is an outcome,
pub indexed_ends : (k : ℕ) (f : Handed) (register : List ℕ) → (r : Imported) × (b : List ℕ) × (g : List ℕ) × ImportIndexed k f register r b g
unfolding ImportIndexed
indexed_ends k f register = (_, _, _, (refl, (refl, refl)))

-- and only one: `import_indexed_one`, among the laws of the crate. "After the call, stops included, its bytes mean nothing": the index is the
-- one lent block of which no contract says what it holds

-- Of what was handed over the indexed import answered r, and left the register b and the buffer g
module _ (k : ℕ) (f : Handed) (register : List ℕ) (r : Imported) (b g : List ℕ) (o : ImportIndexed k f register r b g) where
  -- "Keep today's way as the plain engine and prove that both give the same answer, register and HGC whenever the index is long enough":
  -- what the import answers and leaves is that,
  pub engines_same : slots_in register ≤ k → (r' : Imported) (b' g' : List ℕ) → Import f register r' b' g' → (r ≡ r') × ((b ≡ b') × (g ≡ g'))
  engines_same = laws.engines_same k f register r b g o

  -- so whatever is proved of an outcome of the import is proved of this one
  pub is_import : slots_in register ≤ k → Import f register r b g
  is_import = laws.is_import k f register r b g o

  -- "Refusals: 36, index shorter than the slots, after 24 and before 25, in the indexed import only": the number is that of a stop that holds
  -- where none in front of it does, and 0 exactly where none holds
  pub indexed_decided : Decided (call_stops f.mode (reception_holds f.offset f.reception) register f.rows ++ (36 if index_short k register) ∷ file_stops f.mode f.rows f.hgv ++ judged_stops f register) r.number
  indexed_decided = laws.indexed_decided k f register r b g o

  -- a shorter index is refused, by 36 or by the stop in front of it, whatever else is handed over;
  pub short_refused : k < slots_in register → Decided (call_stops f.mode (reception_holds f.offset f.reception) register f.rows ++ (36 if index_short k register) ∷ []) r.number
  short_refused = laws.short_refused k f register r b g o

  -- a refusal returns zero counts, and every byte of the register and of the buffer stays
  pub indexed_refusal : (r.number ≡ 0 → ⊥) → (r ≡ record { number = r.number; taken = 0; rejected = 0; length = 0 }) × ((b ≡ register) × (g ≡ f.hgc))
  indexed_refusal = laws.indexed_refusal k f register r b g o

  -- In a sequence of demand 3 it is an import: where it was accepted, it is the accepted import of the same file, of which its sender is told
  -- the same; where it was refused, our side is as it was
  pub step_same : r.number ≡ 0 → Import f register r b g
  step_same = laws.step_same k f register r b g o

  -- (`any_indexed`, proofs/Indexed)
  module _ {n : ℕ} {es : List Event} (ours : Ours n register es) where
    abbrev pub AnyIndexed : Type 0
    AnyIndexed = (vs : List Event) × Ours n b vs

-- "in the indexed import only"
pub import_unasked : (f : Handed) (register : List ℕ) (r : Imported) (b g : List ℕ) → Import f register r b g → r.number ≡ 36 → ⊥
import_unasked = laws.import_unasked
