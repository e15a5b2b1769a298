-- The file keeps every form that the import asks: none of the stops 25 to 32 is given for it, in mode 1 and with these rows. Assumes
-- nothing.
use Rattle.std.specs.Prelude.{◌≡◌, refl, Bool, eqb, length}
use Rattle.std.proofs.Math.Bool.{true}
use mathlib.Core.List.{List}
use Prim.Native.Nat.{ℕ}
use Rattle.std.proofs.Common.{arith, eqb-true, eq-eqb, le-leb}
use Rattle.theory.specs.Text.{bytes}
use Rattle.theory.specs.laws.Truth.{either}
use Rattle.theory.specs.Same.{eqs, mem}
use Rattle.theory.specs.laws.Same.{eqs_refl}
use Rattle.theory.specs.Every.{all, run}
use Rattle.theory.specs.laws.Every.{run_all}
use Rattle.theory.specs.laws.Each.{each_map, each_of_map, each_both}
use Rattle.theory.specs.Parts.{chop}
use Rattle.theory.specs.laws.Walk.{passes_each}
use Rattle.sizes.specs.Sizes.{line_length, incremental, slot_end}
use Rattle.sizes.specs.Modes.{is_full}
use Rattle.texts.specs.Field.{listed}
use Rattle.fields.specs.Field.{plain}
use Rattle.numbers.specs.Number.{decimal, zeros}
use Rattle.numbers.specs.laws.Number.{decimal_digits, number_15, number_2}
use Rattle.sequences.specs.Sequence.{sequence}
use Rattle.columns.specs.Columns.{text}
use Rattle.lines.specs.Rules.{line_fault}
use Rattle.lines.specs.laws.Faultless.{faultless, faultless_record}
use Rattle.lines.proofs.Coverage.{record_plain}
use Rattle.hgv.specs.Layout.{length_holds}
use Rattle.hgv.specs.laws.Built.{built_holds}
use Rattle.header.specs.Header.{header_holds, previous_holds}
use Rattle.frames.specs.Frames.{foot, framed, footer_holds, frames_hold}
use Rattle.frames.specs.laws.Frames.{length_foot, foot_form}
use Rattle.claims.specs.Claims.{version_holds, receiver_holds, count_holds}
use Rattle.register.specs.Register.{in_order}
use Rattle.stops.specs.Stops.{mode_holds, full_with220001, addressed}
use Rattle.stops.specs.Clear.{Clear}
use Rattle.accounts.specs.Account.{account_length, account_line}
use Rattle.accounts.specs.laws.Account.{line_type, line_end_lem}
use Rattle.writer.specs.Given.{Given}
use Rattle.writer.specs.Hgv.{accounts_in, accounts_of, list_of, head_of, lines_for, file_of}
use Rattle.writer.specs.laws.Kept.{Kept, sender_length_lem, each_account}
use Rattle.writer.specs.laws.Built.{length_list, length_head, each_line_for, length_lines_for}
use Rattle.writer.specs.laws.Kept.{date_length}
use Rattle.passing.specs.laws.Fields.{file, type_is, sender_is, receiver_is_lem, sequence_is, previous_is, zeros_are, count_is, creation_is, version_is, filler_is, end_is_lem, list_title, list_owner, list_date, list_digits, file_width, lines_number, lines_are, footer_is}

module _ (g : Given) (k : Kept g) where
  abbrev h : List ℕ
  h = file g k

  sized : length_holds h ≡ true
  unfolding file_of
  sized =
      built_holds line_length (head_of g) (lines_for g.sender g.accounts) foot (length_head g k) (each_line_for g k) length_foot (file_width g k) (omega arith)
      (omega (arith, length_lines_for g k, k.few))

  -- the list sequence is one of the sender's
  listed_so : sequence g.sender (list_of g.sender g.date g.number) ≡ true
  unfolding sequence
  listed_so =
      rw (
        length_list g.sender g.date g.number (sender_length_lem g k) (date_length g k),
        list_title g k,
        list_owner g k,
        list_date g k,
        list_digits g k,
        eqs_refl (bytes "HGV"),
        eqs_refl g.sender,
        k.dated,
        decimal_digits 2 g.number,
        number_2 g.number k.most,
      ) (le-leb 1 g.number k.least)

  headed : header_holds h ≡ true
  unfolding header_holds previous_holds zeros run all eqs
  headed =
      rw (
        type_is g k,
        sender_is g k,
        receiver_is_lem g k,
        sequence_is g k,
        previous_is g k,
        zeros_are g k,
        count_is g k,
        creation_is g k,
        filler_is g k,
        end_is_lem g k,
        k.six,
        listed_so,
        k.preceded,
        decimal_digits 15 (accounts_in g.accounts),
        k.created,
      )

  versioned : version_holds h ≡ true
  unfolding version_holds listed chop mem eqs decimal
  versioned =
      rw (version_is g k)
      (either (listed 6 (bytes "120001220001") (decimal 6 g.version) ≡ true) (eqb g.version 120001) (eqb g.version 220001) k.versioned (λ e. rw (eqb-true g.version 120001 e)) (λ e. rw (eqb-true g.version 220001 e)))

  sent : addressed g.rows h ≡ true
  unfolding addressed receiver_holds
  sent = rw (receiver_is_lem g k, eqs_refl (bytes "000002"), sender_is g k) k.sent

  counted : count_holds h ≡ true
  unfolding count_holds
  counted = rw (count_is g k, lines_number g k, number_15 (accounts_in g.accounts) (omega (arith, k.few))) (eq-eqb (accounts_in g.accounts) (accounts_in g.accounts) refl)

  footed : footer_holds h ≡ true
  unfolding footer_holds
  footed = rw (footer_is g k) foot_form

  -- a line without fault has `1` in front, LF at its end and no byte below 32 between
  line_framed : (a : List ℕ) → line_fault g.rows g.sender (account_line g.sender a) ≡ 0 → length a ≡ account_length → framed line_length (account_line g.sender a) ≡ true
  unfolding framed eqs
  line_framed a e s =
      let l : List ℕ = account_line g.sender a in
      let p : all plain (text slot_end l) ≡ true = run_all plain 126 (text slot_end l) (record_plain l (faultless_record g.rows g.sender l (faultless g.rows g.sender l e) k.six)) in
      rw (line_type a s g.sender (sender_length_lem g k), line_end_lem a s g.sender (sender_length_lem g k), p)

  framed_all : frames_hold h ≡ true
  unfolding frames_hold lines_for
  framed_all =
      rw (file_width g k, lines_are g k)
      (passes_each (framed line_length) (each_of_map (account_line g.sender) (accounts_of g.accounts) (each_map (λ a e. line_framed a e.0 e.1) (each_both k.faultless (each_account g k)))))

  -- so the import stops at none of 21 to 32, where the register is in order and the reception and the offset hold
  pub passes : (timed : Bool) (register : List ℕ) → timed ≡ true → in_order register ≡ true → Clear incremental timed register g.rows h
  unfolding mode_holds full_with220001 is_full
  passes timed register received ordered =
      record {
        moded = refl;
        received = received;
        ordered = ordered;
        rowed = k.rowed;
        sized = sized;
        headed = headed;
        versioned = versioned;
        fitting = refl;
        sent = sent;
        counted = counted;
        footed = footed;
        framed = framed_all;
      }
