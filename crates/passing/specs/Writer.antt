-- What the writer promises the provider who uses it. Each sentence of the request, and under it the theorems that say so, of any outcome
-- that the contract of `write_hgv` admits. Assumes nothing.
use Rattle.std.specs.Prelude.{◌≡◌, refl, true, List, [], ℕ, ◌+◌, ◌≤◌, ◌<◌, ℤ, length, take, get_or}
use Rattle.theory.specs.Text.{bytes}
use Rattle.theory.specs.First.{Decided, choose}
use Rattle.sizes.specs.Sizes.{footer_length, hgc_header_length, incremental}
use Rattle.texts.specs.Field.{field}
use Rattle.numbers.specs.Number.{number}
use Rattle.columns.specs.Columns as columns
use Rattle.hgv.specs.Layout.{lines_in, lines_of}
use Rattle.header.specs.Header.{sender, receiver, list_sequence, previous, count, creation, version}
use Rattle.slots.specs.Slots.{slots_in, records}
use Rattle.slots.specs.Search.{held_by_another}
use Rattle.register.specs.Register.{in_order}
use Rattle.imports.specs.Imported.{Imported}
use Rattle.offsets.specs.Offset.{reception_holds}
use Rattle.imports.specs.Handed.{handed}
use Rattle.importer.specs.Promises.{Import}
use Rattle.demands.specs.Verdicts.{Verdicts}
use Rattle.accounts.specs.Account as account
use Rattle.writer.specs.Written.{Written}
use Rattle.writer.specs.Given.{Given}
use Rattle.writer.specs.Hgv.{accounts_in, accounts_of, write_stops}
use Rattle.writer.specs.Promises.{WriteHgv}
use Rattle.passing.specs.laws.Written as laws

-- The writer has no `requires`, so whatever is given there is an outcome, and one only (`write_hgv_one`)
pub write_ends : (g : Given) (out : List ℕ) → (w : Written) × (after : List ℕ) × WriteHgv g out w after
unfolding WriteHgv
write_ends g out = (_, _, (refl, refl))

-- "Refusals: 61, 62, 63, in this order; nothing is written."
module _ (g : Given) (out : List ℕ) (w : Written) (after : List ℕ) (o : WriteHgv g out w after) where
  pub write_decided : Decided (write_stops g out) w.number
  write_decided = laws.number_decided g out w after o

  pub write_refusal : (w.number ≡ 0 → ⊥) → (w ≡ record { number = w.number; length = 0 }) × (after ≡ out)
  write_refusal k = laws.refusal_is g out w after o k

  -- Where it answers 0, the list is as long as it answers, and stands in front of the buffer
  module _ (z : w.number ≡ 0) where
    abbrev list : List ℕ
    list = take w.length after

    -- "What it writes must pass stops 25 to 32 in mode 1 under its sender's rows": for every register in order, every real reception and
    -- every offset at which it can be shown the import answers none of 21 to 32,
    module _ (reception : List ℕ) (offset : ℤ) (register hgc : List ℕ) (real : reception_holds offset reception ≡ true) (ordered : in_order register ≡ true)
        (r : Imported) (b c : List ℕ) (i : Import (handed incremental reception offset g.rows list hgc) register r b c) where
      pub passes : (n : ℕ) → 21 ≤ n → n ≤ 32 → r.number ≡ n → ⊥
      passes = laws.passes g out w after o z reception offset register hgc real ordered r b c i

      -- and where the register has no record, a slot for each account, and the buffer room, every line is taken
      pub all_taken : records register ≡ [] → accounts_in g.accounts ≤ slots_in register → hgc_header_length + footer_length ≤ length hgc
          → r ≡ record { number = 0; taken = accounts_in g.accounts; rejected = 0; length = hgc_header_length + footer_length }
      all_taken = laws.all_taken g out w after o z reception offset register hgc real ordered r b c i

    -- "no line may break L1 to L10": beside the records R a line's verdict is 04, by L11, where another actor has its PAN, and else 0; so it
    -- is never 01
    pub verdicts_are : (R : List (List ℕ)) (vs : List ℕ) → Verdicts g.rows g.sender R (lines_of list) vs → (j : ℕ) → j < accounts_in g.accounts
        → get_or vs j 0 ≡ choose (held_by_another (account.account_pan (get_or (accounts_of g.accounts) j [])) g.sender R) 4 0
    verdicts_are = laws.verdicts_are g out w after o z

    -- "Read back, the fields are those given": those of the header,
    pub header_is : (sender list ≡ g.sender) × (receiver list ≡ bytes "000002") × (field 10 17 (list_sequence list) ≡ g.date) × (number (field 18 19 (list_sequence list)) ≡ g.number)
        × (previous list ≡ g.previous) × (number (count list) ≡ accounts_in g.accounts) × (creation list ≡ g.creation) × (number (version list) ≡ g.version)
    header_is = laws.header_is g out w after o z

    -- and those of each line, of which there are as many as accounts
    pub lines_are : lines_in list ≡ accounts_in g.accounts
    lines_are = laws.lines_are g out w after o z

    module _ (j : ℕ) (l : j < accounts_in g.accounts) where
      abbrev line : List ℕ
      line = get_or (lines_of list) j []

      abbrev a : List ℕ
      a = get_or (accounts_of g.accounts) j []

      pub keys_are : (columns.actor line ≡ g.sender) × (columns.pan_of line ≡ account.account_pan a) × (columns.plate_of line ≡ account.account_plate a) × (columns.nationality_of line ≡ account.account_nationality a)
      keys_are = laws.keys_are g out w after o z j l

      pub tag_is : (columns.tariff line ≡ account.account_tariff a) × (columns.class line ≡ account.account_class a) × (columns.axles line ≡ account.account_axles a)
          × (columns.context_mark line ≡ account.account_context_mark a) × (columns.obe_id line ≡ account.account_obe_id a)
      tag_is = laws.tag_is g out w after o z j l

      pub vehicle_is : (columns.emission line ≡ account.account_emission a) × (columns.fuel line ≡ account.account_fuel a) × (columns.chargeable line ≡ account.account_chargeable a)
          × (columns.engine line ≡ account.account_engine a) × (columns.co2 line ≡ account.account_co2 a) × (columns.weight line ≡ account.account_weight a)
      vehicle_is = laws.vehicle_is g out w after o z j l

      pub end_is_lem : (columns.valid_to line ≡ account.account_valid_to a) × (columns.separator_of line ≡ account.account_separator a)
      end_is_lem = laws.end_is_lem g out w after o z j l

      -- what no account has is the writer's own
      pub fillers_are : (columns.shadow line ≡ bytes "      ") × (columns.product_rest line ≡ bytes "   ") × (columns.filler line ≡ bytes "00000000000")
      fillers_are = laws.fillers_are g out w after o z j l

-- so one list comes of one giving, whatever the buffers and the rows were
pub list_one : (g g' : Given) (out out' : List ℕ) (w w' : Written) (after after' : List ℕ) → WriteHgv g out w after → WriteHgv g' out' w' after' → w.number ≡ 0 → w'.number ≡ 0
    → take w.length after ≡ take w'.length after'
    → (g.version ≡ g'.version) × (g.sender ≡ g'.sender) × (g.date ≡ g'.date) × (g.number ≡ g'.number) × (g.previous ≡ g'.previous) × (g.creation ≡ g'.creation) × (g.accounts ≡ g'.accounts)
list_one = laws.list_one
