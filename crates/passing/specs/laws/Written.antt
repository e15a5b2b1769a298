-- What any outcome of the writer has: at a refusal no length and every lent byte as it was; at 0 the file, which passes the import's form
-- and gives back what was given. Assumes nothing.
use Rattle.std.specs.Prelude.{◌≡◌, ℕ, zero, suc, ◌+◌, ◌≤◌, ◌<◌, ℤ, take, get_or}
use Rattle.std.proofs.Math.Path.{refl, sym, ap}
use Rattle.std.proofs.Common.{◌∙◌, take_at}
use Rattle.std.proofs.Math.Bool.{true, not}
use mathlib.Core.List.{List, [], ◌∷◌, map}
use native.Mathlib.Omega.{arith}
use Rattle.std.proofs.Math.Dec.{ltb}
use Rattle.std.proofs.Math.ListN.{length, length-map}
use borrow.Author.Tests.{le-ltb, ltb-true, not-false}
use Rattle.theory.specs.Text.{bytes}
use Rattle.theory.specs.First.{None, Decided, first, choose}
use Rattle.theory.specs.First as rules
use Rattle.theory.specs.laws.First.{decided, numbered, numbered_by, first_passes}
use Rattle.theory.specs.laws.Stopped.{at_stop, at_success, number_kept}
use Rattle.theory.specs.Each.{Each, none, more}
use Rattle.theory.specs.laws.Each.{each_at, each_of_map}
use Rattle.theory.specs.laws.Parts.{length_chop}
use Rattle.theory.specs.Distinct.{distinct}
use Rattle.theory.specs.Pick.{good, bad, pick}
use Rattle.theory.specs.laws.Pick.{bad_is, good_no, pick_length}
use Rattle.theory.specs.Tally.{tally}
use Rattle.sizes.specs.Sizes.{footer_length, hgc_header_length, incremental}
use Rattle.sizes.specs.Modes.{is_full}
use Rattle.texts.specs.Field.{field}
use Rattle.numbers.specs.Number.{number}
use Rattle.numbers.specs.laws.Number.{number_15, number_decimal}
use Rattle.times.specs.laws.Moment.{real_length}
use Rattle.columns.specs.Columns as columns
use Rattle.lines.specs.Rules.{line_fault}
use Rattle.records.specs.Slot.{slot_of}
use Rattle.hgv.specs.Layout.{lines_in, lines_of}
use Rattle.hgv.specs.laws.Layout.{length_lines}
use Rattle.header.specs.Header.{sender, receiver, list_sequence, previous, count, creation, version}
use Rattle.slots.specs.Slots.{slots_in, records}
use Rattle.slots.specs.Search.{held_by_another}
use Rattle.register.specs.Register.{in_order}
use Rattle.verdicts.specs.Verdict.{file_verdicts, taken}
use Rattle.holdings.specs.Holdings.{holdings}
use Rattle.thinness.specs.laws.Thin.{incremental_thick}
use Rattle.hgc.specs.laws.Confirmation.{length_confirmation}
use Rattle.imports.specs.Imported.{Imported}
use Rattle.offsets.specs.Offset.{local, reception_holds}
use Rattle.offsets.specs.laws.Shift.{local_real}
use Rattle.imports.specs.Handed.{Handed, handed}
use Rattle.imports.specs.Import.{judged, file_stamp, following, confirmed, judged_stops, success}
use Rattle.importer.specs.Promises.{Import}
use Rattle.stops.specs.Clear.{Clear}
use Rattle.imports.specs.laws.Numbers.{number_judged}
use Rattle.demands.specs.Verdicts.{Verdicts}
use Rattle.demands.specs.laws.Judging.{verdicts_there}
use Rattle.demands.specs.laws.Imports as imports
use Rattle.accounts.specs.Account as account
use Rattle.accounts.specs.Account.{account_length, account_line}
use Rattle.accounts.specs.laws.Account as its
use Rattle.writer.specs.Written.{Written}
use Rattle.writer.specs.Given.{Given}
use Rattle.writer.specs.Hgv.{accounts_in, accounts_of, lines_for, file_of, given_holds, pans_apart, write_stops, write_number, unwritten, written_whole, write_answer, out_written, out_after}
use Rattle.writer.specs.Promises.{WriteHgv}
use Rattle.writer.specs.laws.Kept.{Kept, kept, sender_length_lem, each_account}
use Rattle.passing.specs.laws.Fields as fields
use Rattle.passing.specs.laws.Passes as form
use Rattle.passing.specs.laws.Verdicts.{verdict_at}
use Rattle.passing.specs.laws.Verdicts as laws
use Rattle.passing.specs.laws.Same as same

map_at : (f : List ℕ → List ℕ) (xs : List (List ℕ)) (j : ℕ) → j < length xs → get_or (map f xs) j [] ≡ f (get_or xs j [])
map_at f [] j l = absurd (omega arith)
map_at f (x ∷ xs) zero l = refl
map_at f (x ∷ xs) (suc j) l = map_at f xs j (omega arith)

module _ (g : Given) (out : List ℕ) (w : Written) (after : List ℕ) (o : WriteHgv g out w after) where
  number_is : w.number ≡ write_number g out
  unfolding WriteHgv write_answer written_whole unwritten
  number_is = ap (λ (a : Written). a.number) o.0 ∙ number_kept (λ (a : Written). a.number) (write_number g out) _ _ refl refl

  pub number_decided : Decided (write_stops g out) w.number
  unfolding write_number write_stops numbered
  number_decided = decided (write_stops g out) refl w.number number_is

  pub refusal_is : (w.number ≡ 0 → ⊥) → (w ≡ record { number = w.number; length = 0 }) × (after ≡ out)
  unfolding WriteHgv write_answer out_after unwritten
  refusal_is k =
      let n : write_number g out ≡ w.number = sym number_is in
      (o.0 ∙ rw n (at_stop w.number _ _ k), o.1 ∙ rw n (at_stop w.number _ _ k))

  module _ (z : w.number ≡ 0) where
    number_0 : write_number g out ≡ 0
    number_0 = sym number_is ∙ z

    clear : None (write_stops g out)
    clear = number_decided.clear z

    pub given_kept : Kept g
    unfolding write_stops
    given_kept = go clear
      where
        go : None (write_stops g out) → Kept g
        go (rules.more h (rules.more k (rules.more l rules.none))) = kept g (not-false (given_holds g) h)

    pub pans_apart_lem : pans_apart g.accounts ≡ true
    unfolding write_stops
    pans_apart_lem = go clear
      where
        go : None (write_stops g out) → pans_apart g.accounts ≡ true
        go (rules.more h (rules.more k (rules.more l rules.none))) = not-false (pans_apart g.accounts) k

    -- what is in front of the buffer is the file
    pub list_is_lem : take w.length after ≡ file_of g
    unfolding WriteHgv write_answer out_after written_whole out_written
    list_is_lem =
        let l : w.length ≡ length (file_of g) = ap (λ (a : Written). a.length) (o.0 ∙ at_success (write_number g out) _ _ number_0) in
        rw (l, o.1, at_success (write_number g out) (out_written g out) out number_0) (take_at (file_of g) _ (length (file_of g)) refl)

    abbrev list : List ℕ
    list = take w.length after

    abbrev n : ℕ
    n = accounts_in g.accounts

    -- ---- its lines are those of the accounts

    pub lines_are : lines_in list ≡ n
    lines_are = rw list_is_lem (fields.lines_number g given_kept)

    lines_of_lem : lines_of list ≡ map (account_line g.sender) (accounts_of g.accounts)
    unfolding lines_for
    lines_of_lem = rw list_is_lem (fields.lines_are g given_kept)

    length_accounts : length (accounts_of g.accounts) ≡ n
    unfolding accounts_of
    length_accounts = length_chop account_length n g.accounts

    line_at : (j : ℕ) → j < n → get_or (lines_of list) j [] ≡ account_line g.sender (get_or (accounts_of g.accounts) j [])
    line_at j l = rw lines_of_lem (map_at (account_line g.sender) (accounts_of g.accounts) j (omega (arith, length_accounts)))

    account_length_lem : (j : ℕ) → j < n → length (get_or (accounts_of g.accounts) j []) ≡ account_length
    account_length_lem j l = each_at (each_account g given_kept) j [] (omega (arith, length_accounts))

    clean : Each (λ l. line_fault g.rows g.sender l ≡ 0) (lines_of list)
    clean = rw lines_of_lem (each_of_map (account_line g.sender) (accounts_of g.accounts) given_kept.faultless)

    pans_are : {xs : List (List ℕ)} → Each (λ a. length a ≡ account_length) xs → map columns.pan_of (map (account_line g.sender) xs) ≡ map account.account_pan xs
    pans_are none = refl
    pans_are (more {x = a} h hs) = rw (its.line_pan a h g.sender (sender_length_lem g given_kept), pans_are hs)

    apart : distinct (map columns.pan_of (lines_of list)) ≡ true
    unfolding pans_apart
    apart = rw (lines_of_lem, pans_are (each_account g given_kept)) pans_apart_lem

    pub verdicts_are : (R : List (List ℕ)) (vs : List ℕ) → Verdicts g.rows g.sender R (lines_of list) vs → (j : ℕ) → j < n
        → get_or vs j 0 ≡ choose (held_by_another (account.account_pan (get_or (accounts_of g.accounts) j [])) g.sender R) 4 0
    verdicts_are R vs v j l =
        let a : List ℕ = get_or (accounts_of g.accounts) j [] in
        verdict_at g.rows g.sender R (lines_of list) vs v clean apart j (omega (arith, length_lines list, lines_are))
        ∙ rw (line_at j l, its.line_pan a (account_length_lem j l) g.sender (sender_length_lem g given_kept))

    -- ---- the import

    sender_is : sender list ≡ g.sender
    sender_is = rw list_is_lem (fields.sender_is g given_kept)

    module _ (reception : List ℕ) (offset : ℤ) (register hgc : List ℕ) (real : reception_holds offset reception ≡ true) (ordered : in_order register ≡ true)
        (r : Imported) (b c : List ℕ) (i : Import (handed incremental reception offset g.rows list hgc) register r b c) where
      abbrev f : Handed
      f = handed incremental reception offset g.rows list hgc

      formed : Clear incremental (reception_holds offset reception) register g.rows list
      formed = rw list_is_lem (form.passes g given_kept (reception_holds offset reception) register real ordered)

      judged_number : r.number ≡ first (judged_stops f register)
      judged_number = imports.number_is f register r b c i ∙ sym (number_judged f register formed (first (judged_stops f register)) refl)

      pub passes : (m : ℕ) → 21 ≤ m → m ≤ 32 → r.number ≡ m → ⊥
      unfolding judged_stops numbered_by
      passes m a d e =
          let n : first (judged_stops f register) ≡ m = sym judged_number ∙ e in
          omega (arith, ltb-true 32 (first (judged_stops f register)) (first_passes (λ k. ltb 32 k) (judged_stops f register) refl (rw n (bad_is m ∙ ap not (good_no m (λ z. omega arith))))))

      module _ (bare : records register ≡ []) (room : n ≤ slots_in register) (space : hgc_header_length + footer_length ≤ length hgc) where
        abbrev vs : List ℕ
        vs = judged register g.rows list

        judged_so : Verdicts g.rows g.sender (records register) (lines_of list) vs
        unfolding judged file_verdicts
        judged_so = rw sender_is (verdicts_there g.rows g.sender (records register) (lines_of list))

        taken_all : tally good vs ≡ n
        taken_all = laws.all_taken g.rows g.sender (records register) (lines_of list) vs judged_so clean apart bare ∙ omega (arith, length_lines list, lines_are)

        rejected_none : tally bad vs ≡ 0
        rejected_none = laws.none_rejected g.rows g.sender (records register) (lines_of list) vs judged_so clean apart bare

        length_confirmed : length (confirmed f register) ≡ hgc_header_length + footer_length
        unfolding confirmed
        length_confirmed =
            length_confirmation (local offset reception) list vs (real_length (local offset reception) (local_real offset reception real)) formed.sized (omega (arith, judged_so.for_each, length_lines list)) ∙ rw rejected_none (omega arith)

        length_following : length (following f register) ≤ slots_in register
        unfolding following holdings is_full taken
        length_following =
            rw bare
            (omega (
              arith,
              laws.stored_most (map (slot_of (file_stamp f)) (pick good vs (lines_of list))) [],
              length-map (pick good vs (lines_of list)) (slot_of (file_stamp f)),
              pick_length good vs (lines_of list),
              length_lines list,
              lines_are,
            ))

        number_none : r.number ≡ 0
        unfolding judged_stops first choose
        number_none = judged_number ∙ rw (incremental_thick incremental (sender list) (records register) (tally good vs) (λ i. omega arith), le-ltb (slots_in register) (length (following f register)) length_following, le-ltb (length hgc) (length (confirmed f register)) (omega (arith, length_confirmed)))

        pub all_taken : r ≡ record { number = 0; taken = n; rejected = 0; length = hgc_header_length + footer_length }
        unfolding success
        all_taken = imports.done_is f register r b c i number_none ∙ rw (taken_all, rejected_none, length_confirmed)

    -- ---- the fields

    pub header_is : (sender list ≡ g.sender) × (receiver list ≡ bytes "000002") × (field 10 17 (list_sequence list) ≡ g.date) × (number (field 18 19 (list_sequence list)) ≡ g.number)
        × (previous list ≡ g.previous) × (number (count list) ≡ n) × (creation list ≡ g.creation) × (number (version list) ≡ g.version)
    header_is =
        let k : Kept g = given_kept in
        rw (list_is_lem, fields.sequence_is g k, fields.count_is g k, fields.version_is g k)
        (fields.sender_is g k, fields.receiver_is_lem g k, fields.list_date g k, fields.list_number g k, fields.previous_is g k, number_15 n (omega (arith, k.few)), fields.creation_is g k, number_decimal 6 g.version (same.version_small g k))

    module _ (j : ℕ) (l : j < n) where
      abbrev a : List ℕ
      a = get_or (accounts_of g.accounts) j []

      abbrev line : List ℕ
      line = get_or (lines_of list) j []

      s : length a ≡ account_length
      s = account_length_lem j l

      six : length g.sender ≡ 6
      six = sender_length_lem g given_kept

      pub keys_are : (columns.actor line ≡ g.sender) × (columns.pan_of line ≡ account.account_pan a) × (columns.plate_of line ≡ account.account_plate a) × (columns.nationality_of line ≡ account.account_nationality a)
      keys_are = rw (line_at j l) (its.line_actor a s g.sender six, its.line_pan a s g.sender six, its.line_plate a s g.sender six, its.line_nationality a s g.sender six)

      pub tag_is : (columns.tariff line ≡ account.account_tariff a) × (columns.class line ≡ account.account_class a) × (columns.axles line ≡ account.account_axles a)
          × (columns.context_mark line ≡ account.account_context_mark a) × (columns.obe_id line ≡ account.account_obe_id a)
      tag_is = rw (line_at j l) (its.line_tariff a s g.sender six, its.line_class a s g.sender six, its.line_axles a s g.sender six, its.line_context_mark a s g.sender six, its.line_obe_id a s g.sender six)

      pub vehicle_is : (columns.emission line ≡ account.account_emission a) × (columns.fuel line ≡ account.account_fuel a) × (columns.chargeable line ≡ account.account_chargeable a)
          × (columns.engine line ≡ account.account_engine a) × (columns.co2 line ≡ account.account_co2 a) × (columns.weight line ≡ account.account_weight a)
      vehicle_is = rw (line_at j l) (its.line_emission a s g.sender six, its.line_fuel a s g.sender six, its.line_chargeable a s g.sender six, its.line_engine a s g.sender six, its.line_co2 a s g.sender six, its.line_weight a s g.sender six)

      pub end_is_lem : (columns.valid_to line ≡ account.account_valid_to a) × (columns.separator_of line ≡ account.account_separator a)
      end_is_lem = rw (line_at j l) (its.line_valid_to a s g.sender six, its.line_separator a s g.sender six)

      pub fillers_are : (columns.shadow line ≡ bytes "      ") × (columns.product_rest line ≡ bytes "   ") × (columns.filler line ≡ bytes "00000000000")
      fillers_are = rw (line_at j l) (its.line_shadow a s g.sender six, its.line_product_rest a s g.sender six, its.line_filler a s g.sender six)

pub list_one : (g g' : Given) (out out' : List ℕ) (w w' : Written) (after after' : List ℕ) → WriteHgv g out w after → WriteHgv g' out' w' after' → w.number ≡ 0 → w'.number ≡ 0
    → take w.length after ≡ take w'.length after'
    → (g.version ≡ g'.version) × (g.sender ≡ g'.sender) × (g.date ≡ g'.date) × (g.number ≡ g'.number) × (g.previous ≡ g'.previous) × (g.creation ≡ g'.creation) × (g.accounts ≡ g'.accounts)
list_one g g' out out' w w' after after' o o' z z' e =
    let k : Kept g = given_kept g out w after o z in
    let k' : Kept g' = given_kept g' out' w' after' o' z' in
    let f : file_of g ≡ file_of g' = sym (list_is_lem g out w after o z) ∙ e ∙ list_is_lem g' out' w' after' o' z' in
    (same.versions g g' k k' f, same.senders g g' k k' f, same.dates g g' k k' f, same.numbers g g' k k' f, same.previouses g g' k k' f, same.creations g g' k k' f, same.accounts_same g g' k k' f)
