-- In a sequence of demand 3 the indexed import is an import. Assumes nothing.
use Rattle.std.specs.Prelude.{◌≡◌, refl, Bool, true, false, List, ℕ, eqb}
use Rattle.std.proofs.Common.{eqb-true}
use Rattle.std.proofs.lemmas.Bool.{eqb-false}
use Rattle.imports.specs.Imported.{Imported}
use Rattle.imports.specs.Handed.{Handed}
use Rattle.indexed.specs.Promises.{ImportIndexed}
use Rattle.demands.specs.History.{Event, Ours}
use Rattle.demands.specs.Indexed.{AnyIndexed}
use Rattle.demands.specs.laws.Indexed.{step_same, indexed_refusal}
use Rattle.demands.proofs.Replays.{goes_on}

module _ (k : ℕ) (f : Handed) (register : List ℕ) (r : Imported) (b g : List ℕ) (o : ImportIndexed k f register r b g) where
  pub any_indexed : {n : ℕ} {es : List Event} (s : Ours n register es) → AnyIndexed k f register r b g o s
  any_indexed {n} {es} s = go (eqb r.number 0) refl
    where
      go : (t : Bool) → eqb r.number 0 ≡ t → (vs : List Event) × Ours n b vs
      go true e = goes_on s f r b g (step_same k f register r b g o (eqb-true r.number 0 e))
      go false e = (es, rw (indexed_refusal k f register r b g o (eqb-false r.number 0 e)).1.0 s)
