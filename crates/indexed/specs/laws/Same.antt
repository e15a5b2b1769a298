-- The indexed import beside the import: the same where the index is long enough; else 36, or the stop in front of it. Assumes nothing.
use Rattle.std.specs.Prelude.{◌≡◌, true, List, [], ◌∷◌, ◌++◌, ℕ, ◌≤◌, ◌<◌}
use Rattle.std.proofs.Math.Path.{refl, sym}
use borrow.Author.Tests.{le-ltb, lt-ltb, ltb-false}
use Rattle.theory.specs.First.{◌if◌, first, choose}
use Rattle.theory.specs.laws.First.{numbered, fits_at, none_at, first_clear}
use Rattle.theory.specs.laws.Stopped.{at_stop, by_first}
use Rattle.slots.specs.Slots.{slots_in}
use Rattle.stops.specs.Stops.{call_stops, file_stops, form_stops, index_short, indexed_form_stops, indexed_form_stop}
use Rattle.imports.specs.Imported.{Imported}
use Rattle.imports.specs.Handed.{Handed}
use Rattle.imports.specs.Import.{judged_stops, timed, stops, import_number, refusal, import_answer, register_after, hgc_after}
use Rattle.imports.specs.Promises.{ImportJudged}
use Rattle.indexed.specs.Indexed.{indexed_stops, indexed_number}
use Rattle.indexed.specs.Promises.{ImportIndexed}

module _ (k : ℕ) (f : Handed) (register : List ℕ) where
  -- ---- long enough

  pub number_same : slots_in register ≤ k → indexed_number k f register ≡ import_number f register
  unfolding indexed_number indexed_stops indexed_form_stops import_number stops form_stops call_stops index_short first choose
  number_same l = rw (le-ltb k (slots_in register) l)

  module _ (l : slots_in register ≤ k) (r : Imported) (b g : List ℕ) where
    pub as_import : ImportIndexed k f register r b g → ImportJudged f register r b g
    unfolding ImportIndexed ImportJudged import_answer register_after hgc_after
    as_import o = rw (number_same l) at o

    pub as_indexed : ImportJudged f register r b g → ImportIndexed k f register r b g
    unfolding ImportIndexed ImportJudged import_answer register_after hgc_after
    as_indexed o = rw (number_same l) o

  -- ---- too short

  -- 36 decides where none of 21 to 24 does
  pub number_short : k < slots_in register → indexed_number k f register ≡ first (call_stops f.mode (timed f) register f.rows ++ (36 if index_short k register) ∷ [])
  unfolding indexed_number indexed_stops indexed_form_stops call_stops index_short first choose
  number_short l = rw (lt-ltb k (slots_in register) l)

  -- so where no stop holds it is long enough
  pub number_long : indexed_number k f register ≡ 0 → slots_in register ≤ k
  unfolding indexed_number indexed_stops indexed_form_stops call_stops file_stops judged_stops index_short numbered fits_at
  number_long e = ltb-false k (slots_in register) (none_at 36 (first_clear (indexed_stops k f register) refl e))

  -- ---- a stop of form

  forms : numbered (indexed_form_stops f.mode (timed f) register f.rows k f.hgv) ≡ true
  unfolding indexed_form_stops call_stops file_stops numbered
  forms = refl

  module _ (n : ℕ) (e : n ≡ indexed_form_stop f.mode (timed f) register f.rows k f.hgv) where
    number_form : (n ≡ 0 → ⊥) → n ≡ indexed_number k f register
    unfolding indexed_number indexed_stops indexed_form_stop
    number_form = by_first (indexed_form_stops f.mode (timed f) register f.rows k f.hgv) (judged_stops f register) forms n e

    -- is answered, and every lent byte stays
    pub stopped : (n ≡ 0 → ⊥) → ImportIndexed k f register (refusal n) register f.hgc
    unfolding ImportIndexed
    stopped z =
        let q = number_form z in
        (sym (rw (← q) (at_stop n _ (refusal n) z)), (sym (rw (← q) (at_stop n _ register z)), sym (rw (← q) (at_stop n _ f.hgc z))))
