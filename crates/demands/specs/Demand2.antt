-- Demand 2: exact. Each sentence of it, and under it the theorem that says so, of any outcome that the contract of `import` admits. What
-- verdicts are (`Verdicts`), and what it is to break no rule (`Unbroken`), stands in Verdicts. Assumes nothing.
use Rattle.std.specs.Prelude.{◌≡◌, true, false, List, [], ◌++◌, ℕ, ◌+◌, ◌≤◌, ◌<◌, length, take, drop, get_or}
use Rattle.std.proofs.Common.{sym, ◌∙◌}
use Rattle.stamps.specs.Stamp.{stamp}
use Rattle.records.specs.Slot.{slot_of}
use Rattle.theory.specs.First.{Fits}
use Rattle.theory.specs.laws.First.{first_fits}
use Rattle.theory.specs.Parts.{part_at}
use Rattle.theory.specs.Pick.{good, bad, pick}
use Rattle.theory.specs.Tally.{tally}
use Rattle.theory.specs.Join.{flat}
use Rattle.theory.specs.Pad.{pad}
use Rattle.numbers.specs.Number.{number}
use Rattle.hgv.specs.Layout.{lines_in, lines_of}
use Rattle.header.specs.Header.{sender, list_sequence, count}
use Rattle.sizes.specs.Sizes.{slot_length}
use Rattle.slots.specs.Slots.{slots_in, records, used_in}
use Rattle.register.specs.Register.{in_order}
use Rattle.slots.specs.Search.{of_actor}
use Rattle.verdicts.specs.Verdict.{verdict_rules, verdicts_of}
use Rattle.offsets.specs.Offset.{local}
use Rattle.hgc.specs.Confirmation.{confirmation}
use Rattle.holdings.specs.Holdings.{others, holdings}
use Rattle.imports.specs.Imported.{Imported}
use Rattle.provider.specs.Counted.{Counted}
use Rattle.reading.specs.Promises.{ReadBack}
use Rattle.imports.specs.Handed.{Handed}
use Rattle.importer.specs.Promises.{Import}
use Rattle.demands.specs.Verdicts.{taken_before, Verdicts, Unbroken}
use Rattle.demands.specs.laws.Judging.{verdicts_there, verdicts_only, unbroken, none_fits}
use Rattle.demands.specs.laws.Exact as laws

-- "Each line is taken, or rejected with the first reason that fits."
-- The lines of a file have verdicts, and no others
module _ (rows from : List ℕ) (R ls : List (List ℕ)) where
  pub judged : (vs : List ℕ) × Verdicts rows from R ls vs
  judged = (verdicts_of rows from R ls, verdicts_there rows from R ls)

  pub judged_once : (vs vs' : List ℕ) → Verdicts rows from R ls vs → Verdicts rows from R ls vs' → vs ≡ vs'
  judged_once vs vs' v v' = verdicts_only rows from R ls vs v ∙ sym (verdicts_only rows from R ls vs' v')

  module _ (vs : List ℕ) (v : Verdicts rows from R ls vs) (i : ℕ) (l : i < length ls) where
    -- a line is taken exactly when it breaks none of L1 to L12,
    pub taken_exactly : (get_or vs i 0 ≡ 0 → Unbroken rows from R (taken_before ls vs i) (get_or ls i [])) × (Unbroken rows from R (taken_before ls vs i) (get_or ls i []) → get_or vs i 0 ≡ 0)
    taken_exactly =
        (λ e. unbroken rows from R (taken_before ls vs i) (get_or ls i []) (sym (v.first_that_fits i l) ∙ e), λ u. v.first_that_fits i l ∙ none_fits rows from R (taken_before ls vs i) (get_or ls i []) u)

    -- and else its verdict is the number of a rule that fits, and none in front of it does
    pub rejected_by : (get_or vs i 0 ≡ 0 → ⊥) → Fits (get_or vs i 0) (verdict_rules rows from R (taken_before ls vs i) (get_or ls i []))
    rejected_by k = first_fits (verdict_rules rows from R (taken_before ls vs i) (get_or ls i [])) (get_or vs i 0) (sym (v.first_that_fits i l)) k

-- Of what was handed over the import answered r with the number 0, and left the register b and the buffer g
module _ (f : Handed) (register : List ℕ) (r : Imported) (b g : List ℕ) (o : Import f register r b g) (z : r.number ≡ 0) where
  -- vs are the verdicts of the file's lines, beside the register as it was
  abbrev Judged : List ℕ → Type 0
  Judged vs = Verdicts f.rows (sender f.hgv) (records register) (lines_of f.hgv) vs

  -- "The register then holds exactly the accounts that follow,"
  pub records_are : (vs : List ℕ) → Judged vs → records b ≡ holdings f.mode (sender f.hgv) (slot_of (stamp (list_sequence f.hgv) f.reception)) (records register) (pick good vs (lines_of f.hgv))
  records_are vs v = laws.records_are f register r b g o z vs v

  -- behind its records it is free slots, as many slots as before, and in order again
  pub register_is : (b ≡ flat (pad slot_length (slots_in register) (records b))) × (in_order b ≡ true)
  register_is = (laws.bytes_are f register r b g o z, laws.order_again f register r b g o z)

  -- "no other provider's record differs in a byte,"
  -- they are the same sequence,
  pub others_are : others (sender f.hgv) (records b) ≡ others (sender f.hgv) (records register)
  others_are = laws.others_are f register r b g o z

  -- and in mode 1 every slot of another holds the same bytes in the same place
  pub others_stay : f.mode ≡ 1 → (i : ℕ) → i < used_in register → of_actor (sender f.hgv) (part_at slot_length i register) ≡ false → part_at slot_length i b ≡ part_at slot_length i register
  others_stay = laws.places_are f register r b g o z

  -- "and the HGC is exact to the byte."
  pub hgc_is : (vs : List ℕ) → Judged vs
      → (g ≡ confirmation (local f.offset f.reception) f.hgv vs ++ drop r.length f.hgc) × (r.length ≡ length (confirmation (local f.offset f.reception) f.hgv vs))
  hgc_is vs v = (laws.buffer_is f register r b g o z vs v, laws.length_is f register r b g o z vs v)

  -- "Taken and rejected add up to the header's count."
  pub adds_up : r.taken + r.rejected ≡ number (count f.hgv)
  adds_up = laws.counts_add_up f register r b g o z

  -- they are the lines that break no rule, and the others
  pub counts_are : (vs : List ℕ) → Judged vs → (r.taken ≡ tally good vs) × (r.rejected ≡ tally bad vs)
  counts_are vs v = (laws.taken_is f register r b g o z vs v, laws.rejected_is f register r b g o z vs v)

  -- "Reading an HGC back beside its HGV gives the same lines, reasons and counts."
  -- The buffer cut at the length answered, any block of enough bytes, any outcome that the contract of `read_back` admits
  pub read_back : (vs : List ℕ) → Judged vs → (block : List ℕ) (u : Counted) (w : List ℕ) → ReadBack f.hgv (take r.length g) block u w → lines_in f.hgv ≤ length block
      → (u ≡ record { number = 0; taken = r.taken; rejected = r.rejected }) × (w ≡ vs ++ drop (lines_in f.hgv) block)
  read_back vs v block u w p = laws.read_is f register r b g o z vs v block u w p
