-- The file, written text by text and line by line. Assumes nothing.
use mathlib.Core.Path.{◌≡◌, refl, sym, ◌∙◌}
use mathlib.Core.Bool.{Bool, true, false}
use mathlib.Core.List.{List, [], ◌∷◌, ◌++◌, map, append_assoc, append-nil, map-append}
use Prim.Native.Nat.{ℕ, suc, ◌+◌, ◌*◌, ◌%◌, ◌≤◌, ◌<◌}
use native.Mathlib.Omega.{arith}
use lib.Dec.{eqb, leb}
use lib.ListN.{length, take, drop, get_or}
use lib.Seq.{drop-length, take-suc, take_all}
use borrow.Author.Tests.{leb-true, ne_eqb}
use Rattle.theory.specs.Text.{bytes}
use Rattle.theory.specs.laws.Truth.{joined, joined_each}
use Rattle.theory.specs.laws.Each.{each_head, each_tail}
use Rattle.theory.specs.laws.Stopped.{at_stop, at_success}
use Rattle.theory.specs.Join.{flat}
use Rattle.theory.specs.laws.Join.{flat_append, length_flat}
use Rattle.sizes.specs.Sizes.{header_length, line_length, footer_length, lines_most}
use Rattle.texts.specs.Field.{line_end}
use Rattle.texts.specs.laws.Pieces.{length_pieces}
use Rattle.writing.specs.Put.{put_field}
use Rattle.writing.specs.laws.Laid.{Laid, laid_start, laid_next, laid_front, laid, all_done, then, in_turn}
use Rattle.numbers.specs.Number.{decimal, zeros}
use Rattle.numbers.specs.laws.Number.{length_decimal, length_zeros}
use Rattle.issuers.specs.Rows.{rows_hold, known}
use Rattle.frames.specs.Frames.{foot}
use Rattle.frames.specs.laws.Frames.{length_foot}
use Rattle.lines.specs.Rules.{line_fault}
use Rattle.accounts.specs.Account.{account_length, sender_length, account_line}
use Rattle.accounts.specs.laws.Account.{length_line}
use Rattle.writer.specs.Written.{told}
use Rattle.writer.specs.laws.Outcomes.{told_refused}
use Rattle.std.specs.Prelude.{◌≢◌, Result, Ok, Err}
use Rattle.std.specs.Result.{is_ok}
use Rattle.rules.specs.declared.reason.Reason.{Reason}
use Rattle.rules.specs.declared.refusal.Refusal.{Refusal}
use Rattle.rules.specs.declared.refusal.Refusal.TheVariants as refusal
use Rattle.rules.specs.Numbers.{reason_number, refusal_number, verdict_number, required}
use Rattle.rules.specs.laws.Numbers.{reason_some, refusal_some, broken}
use Rattle.writer.specs.Given.{Given}
use Rattle.writer.specs.Hgv.{accounts_in, accounts_of, list_of, list_texts, claim_texts, head_of, lines_for, file_of, file_length, blocks_hold, faultless_line, pans_apart, write_number, unwritten, written_whole, write_answer, out_written, out_after}
use Rattle.writer.specs.Promises.{WriteHgv}
use Rattle.writer.specs.laws.Stops.{accounts_hold, accounts_number, headed, number_headless, number_headed, given_holds_lem, accounts_clear}
use Rattle.writer.specs.laws.Kept.{Kept, kept, sized, sender_length_lem, date_length, previous_length, creation_length}
use Rattle.writer.specs.laws.Built.{length_list, names_wide, claims_wide, each_line_for, length_lines_for, length_file}

-- ---- a line by itself

-- written over a text of its length, it is all
line_alone : (sender a z l : List ℕ) → l ≡ put_field 1 (account_line sender a) z → length z ≡ line_length → length sender ≡ sender_length → length a ≡ account_length → l ≡ account_line sender a
line_alone sender a z l e n s k =
    let m : length (account_line sender a) ≡ line_length = length_line a k sender s in
    let f : List ℕ = account_line sender a in
    let q : length f ≡ length z = m ∙ sym n in
    laid_front (line_length + 1) f z l (laid 1 (line_length + 1) f z l e (omega arith) (omega arith) (omega arith)) ∙ rw (q, drop-length z) (append-nil f)

-- a line that breaks no rule has the verdict 0
pub ok_is : (r : Result Unit Reason) → is_ok r ≡ eqb (verdict_number r) 0
ok_is (Ok u) = refl
ok_is (Err e) = sym (ne_eqb (reason_number e) 0 (reason_some e))

pub faultless_is : (rows sender a z l : List ℕ) (v : ℕ) → l ≡ put_field 1 (account_line sender a) z → length z ≡ line_length → length sender ≡ sender_length → length a ≡ account_length
    → v ≡ line_fault rows sender l → eqb v 0 ≡ faultless_line rows sender a
unfolding faultless_line
faultless_is rows sender a z l v e n s k h = rw (h, line_alone sender a z l e n s k)

-- ---- the header

pub list_written : (number : ℕ) (sender date s₀ s₁ s₂ s₃ s₄ : List ℕ) → header_length ≤ length s₀ → length sender ≡ sender_length → length date ≡ 8
    → s₁ ≡ put_field 14 (bytes "HGV") s₀ → s₂ ≡ put_field 17 sender s₁ → s₃ ≡ put_field 23 date s₂ → s₄ ≡ put_field 31 (decimal 2 number) s₃
    → s₄ ≡ put_field 14 (list_of sender date number) s₀
unfolding list_of
list_written number sender date s₀ s₁ s₂ s₃ s₄ r s d e₁ e₂ e₃ e₄ =
    in_turn {r = 33}
    (then {q = 17} e₁ refl
    (then {q = 23} e₂ (omega arith)
    (then {q = 31} e₃ (omega arith)
    (then {q = 33} e₄ (omega (arith, length_decimal 2 number)) all_done)))) (omega arith) (omega arith)

pub names_written : (number : ℕ) (sender date previous s₀ s₁ s₂ s₃ s₄ s₅ : List ℕ) → header_length ≤ length s₀ → length sender ≡ sender_length → length date ≡ 8 → length previous ≡ 19
    → s₁ ≡ put_field 1 (bytes "0") s₀ → s₂ ≡ put_field 2 sender s₁ → s₃ ≡ put_field 8 (bytes "000002") s₂ → s₄ ≡ put_field 14 (list_of sender date number) s₃ → s₅ ≡ put_field 33 previous s₄
    → s₅ ≡ put_field 1 (flat (list_texts sender date number previous)) s₀
names_written number sender date previous s₀ s₁ s₂ s₃ s₄ s₅ r s d p e₁ e₂ e₃ e₄ e₅ =
    in_turn {r = 52}
    (then {q = 2} e₁ refl
    (then {q = 8} e₂ (omega arith)
    (then {q = 14} e₃ refl
    (then {q = 33} e₄ (omega (arith, length_list sender date number s d))
    (then {q = 52} e₅ (omega arith) all_done))))) (omega arith) (omega arith)

pub claims_written : (count version : ℕ) (creation s₀ s₁ s₂ s₃ s₄ s₅ s₆ : List ℕ) → header_length ≤ length s₀ → length creation ≡ 14
    → s₁ ≡ put_field 52 (zeros 14) s₀ → s₂ ≡ put_field 66 (decimal 15 count) s₁ → s₃ ≡ put_field 81 creation s₂
    → s₄ ≡ put_field 95 (decimal 6 version) s₃ → s₅ ≡ put_field 101 (zeros 27) s₄ → s₆ ≡ put_field header_length line_end s₅
    → s₆ ≡ put_field 52 (flat (claim_texts count creation version)) s₀
claims_written count version creation s₀ s₁ s₂ s₃ s₄ s₅ s₆ r c e₁ e₂ e₃ e₄ e₅ e₆ =
    in_turn {r = header_length + 1}
    (then {q = 66} e₁ (omega (arith, length_zeros 14))
    (then {q = 81} e₂ (omega (arith, length_decimal 15 count))
    (then {q = 95} e₃ (omega arith)
    (then {q = 101} e₄ (omega (arith, length_decimal 6 version))
    (then {q = header_length} e₅ (omega (arith, length_zeros 27))
    (then {q = header_length + 1} e₆ refl all_done)))))) (omega arith) (omega arith)

-- ---- the lines: those of the first i accounts stand behind the header; o is the buffer before

unfoldable pub Lined : List ℕ → List (List ℕ) → List ℕ → ℕ → List ℕ → Type 0
Lined sender accounts o i s = Laid (header_length + 1) (header_length + i * line_length + 1) (flat (map (account_line sender) (take i accounts))) o s

module _ (sender : List ℕ) (accounts : List (List ℕ)) (o : List ℕ) where
  pub lined_start : header_length ≤ length o → Lined sender accounts o 0 o
  unfolding Lined flat
  lined_start r = laid_start (header_length + 1) o (omega arith) (omega arith)

  module _ (i : ℕ) (s : List ℕ) (v : Lined sender accounts o i s) where
    pub lined_end : length accounts ≤ i → i ≤ length accounts → s ≡ put_field (header_length + 1) (flat (map (account_line sender) accounts)) o
    unfolding Lined
    lined_end h k = rw (← take_all i accounts h) v.is

    next_line : (d : List ℕ) → i < length accounts → flat (map (account_line sender) (take (i + 1) accounts)) ≡ flat (map (account_line sender) (take i accounts)) ++ account_line sender (get_or accounts i d)
    unfolding flat
    next_line d h =
        let on : i + 1 ≡ suc i = omega arith in
        rw (on, take-suc accounts i d h, map-append (account_line sender) (take i accounts) (get_or accounts i d ∷ []), flat_append, append-nil (account_line sender (get_or accounts i d)))

    -- d is what stands where there is no account
    pub lined_turn : (d : List ℕ) → i < length accounts → header_length + length accounts * line_length ≤ length o → length sender ≡ sender_length
        → length (get_or accounts i d) ≡ account_length → (s' : List ℕ) → s' ≡ put_field (header_length + i * line_length + 1) (account_line sender (get_or accounts i d)) s → Lined sender accounts o (i + 1) s'
    unfolding Lined
    lined_turn d h r k l s' e =
        let m : length (account_line sender (get_or accounts i d)) ≡ line_length = length_line (get_or accounts i d) l sender k in
        rw (next_line d h)
        (laid_next (header_length + 1) (header_length + i * line_length + 1) _ o s v (account_line sender (get_or accounts i d)) s' (header_length + (i + 1) * line_length + 1) e (omega arith) (omega arith))

-- ---- the accounts

pub blocks_few : (sender rows accounts : List ℕ) → blocks_hold sender rows accounts ≡ true → accounts_in accounts ≤ lines_most
unfolding blocks_hold joined
blocks_few sender rows accounts h =
    leb-true (accounts_in accounts) lines_most
    (each_head (each_tail (each_tail (each_tail (joined_each (rows_hold rows) (known rows sender ∷ eqb (length accounts % account_length) 0 ∷ leb (accounts_in accounts) lines_most ∷ []) h)))))

joined_parts : (names claims : List (List ℕ)) (ls end : List ℕ) → flat (flat names ∷ flat claims ∷ ls ∷ end ∷ []) ≡ flat (names ++ claims) ++ (ls ++ end)
unfolding flat
joined_parts names claims ls end = rw (flat_append names claims) (simp (append_assoc, append-nil))

in_front_lem : (f s : List ℕ) → put_field 1 f s ≡ f ++ drop (length f) s
unfolding put_field
in_front_lem f s = let z : 0 + length f ≡ length f = omega arith in rw z

-- ---- the whole: s₁ to s₄ are the buffer after each part

pub file_written : (g : Given) → Kept g → (s₀ s₁ s₂ s₃ s₄ : List ℕ) → file_length (accounts_in g.accounts) ≤ length s₀
    → s₁ ≡ put_field 1 (flat (list_texts g.sender g.date g.number g.previous)) s₀
    → s₂ ≡ put_field 52 (flat (claim_texts (accounts_in g.accounts) g.creation g.version)) s₁
    → s₃ ≡ put_field (header_length + 1) (flat (map (account_line g.sender) (accounts_of g.accounts))) s₂
    → s₄ ≡ put_field (header_length + accounts_in g.accounts * line_length + 1) foot s₃
    → s₄ ≡ out_written g s₀
unfolding out_written file_of head_of lines_for
file_written g k s₀ s₁ s₂ s₃ s₄ r e₁ e₂ e₃ e₄ =
    let n : ℕ = accounts_in g.accounts in
    let names : List (List ℕ) = list_texts g.sender g.date g.number g.previous in
    let claims : List (List ℕ) = claim_texts n g.creation g.version in
    let ls : List (List ℕ) = map (account_line g.sender) (accounts_of g.accounts) in
    let l₁ : length (flat names) ≡ 51 = length_pieces (names_wide g.sender g.date g.number g.previous (sender_length_lem g k) (date_length g k) (previous_length g k)) in
    let l₂ : length (flat claims) ≡ 77 = length_pieces (claims_wide n g.creation g.version (creation_length g k)) in
    let l₃ : length (flat ls) ≡ n * line_length = length_flat line_length (each_line_for g k) ∙ rw (length_lines_for g k) in
    in_turn {p = 1} {r = header_length + n * line_length + footer_length + 1}
    (then {q = 52} e₁ (omega arith)
    (then {q = header_length + 1} e₂ (omega arith)
    (then {q = header_length + n * line_length + 1} e₃ (omega arith)
    (then {q = header_length + n * line_length + footer_length + 1} e₄ (omega (arith, length_foot)) all_done)))) (omega arith) (omega arith)
    ∙ rw (joined_parts names claims (flat ls) foot) (in_front_lem (flat (names ++ claims) ++ (flat ls ++ foot)) s₀)

-- the buffer has room
pub room_left : (sender rows accounts : List ℕ) (room : ℕ) → 0 ≡ accounts_number sender rows accounts room → file_length (accounts_in accounts) ≤ room
room_left sender rows accounts room e = (accounts_clear sender rows accounts room (sym e)).1.1

-- ---- the refusals, and success

module _ (g : Given) (out : List ℕ) where
  refused_by : (f : Refusal) → write_number g out ≡ refusal_number f → WriteHgv g out (told (Err f)) out
  unfolding WriteHgv write_answer out_after
  refused_by f e =
      let z = refusal_some f in
      (told_refused f ∙ sym (rw e (at_stop (refusal_number f) _ (unwritten (refusal_number f)) z)), sym (rw e (at_stop (refusal_number f) _ out z)))

  -- a sender of another length is none
  unheaded : length g.sender ≢ sender_length → (h : Bool) → h ≡ headed g out → headed g out ≡ false
  unheaded l true e = absurd (l (sized g.version g.sender g.date g.number g.previous g.creation (sym e)).of_sender)
  unheaded l false e = sym e

  pub unsized : length g.sender ≢ sender_length → WriteHgv g out (told (Err refusal.Given)) out
  unsized l = refused_by refusal.Given (number_headless g out (unheaded l (headed g out) refl))

  -- h says whether the header's fields keep their form
  pub headless : (h : Bool) → h ≡ headed g out → (f : Refusal) → Err f ≡ required h refusal.Given → WriteHgv g out (told (Err f)) out
  headless h e f k = let (z, x) = broken h refusal.Given f k in rw x (refused_by refusal.Given (number_headless g out (sym e ∙ z)))

  module _ (h : headed g out ≡ true) where
    pub stopped : (f : Refusal) → refusal_number f ≡ accounts_number g.sender g.rows g.accounts (length out) → WriteHgv g out (told (Err f)) out
    stopped f e = refused_by f (number_headed g out h ∙ sym e)

    module _ (e : 0 ≡ accounts_number g.sender g.rows g.accounts (length out)) where
      clear : (accounts_hold g.sender g.rows g.accounts ≡ true) × ((pans_apart g.accounts ≡ true) × (file_length (accounts_in g.accounts) ≤ length out))
      clear = accounts_clear g.sender g.rows g.accounts (length out) (sym e)

      given_kept : Kept g
      given_kept = kept g (given_holds_lem g out h clear.0)

      -- a are the accounts, n of them, and s₁ to s₄ the buffer after each part
      pub written : (n : ℕ) (a : List (List ℕ)) → n ≡ accounts_in g.accounts → a ≡ accounts_of g.accounts → (s₁ s₂ s₃ s₄ : List ℕ)
          → s₁ ≡ put_field 1 (flat (list_texts g.sender g.date g.number g.previous)) out
          → s₂ ≡ put_field 52 (flat (claim_texts n g.creation g.version)) s₁
          → s₃ ≡ put_field (header_length + 1) (flat (map (account_line g.sender) a)) s₂
          → s₄ ≡ put_field (header_length + n * line_length + 1) foot s₃
          → WriteHgv g out (told (Ok (file_length n))) s₄
      unfolding WriteHgv write_answer out_after written_whole
      written n a en ea s₁ s₂ s₃ s₄ e₁ e₂ e₃ e₄ =
          let z : write_number g out ≡ 0 = number_headed g out h ∙ sym e in
          let m : length (file_of g) ≡ file_length (accounts_in g.accounts) = length_file g given_kept in
          let whole = file_written g given_kept out s₁ s₂ s₃ s₄ clear.1.1 e₁ (rw en at e₂) (rw ea at e₃) (rw en at e₄) in
          (rw en (sym (at_success (write_number g out) _ _ z ∙ rw m)), whole ∙ sym (at_success (write_number g out) _ _ z))
