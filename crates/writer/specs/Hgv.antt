-- The writer: the file that it makes, its refusals, its answer and the buffer after it, for every number and every text of every
-- length. g is what is given. Assumes nothing.
use Rattle.std.specs.Prelude.{ℕ, ◌+◌, ◌*◌, ◌/◌, ◌%◌, Bool, not, ◌&&◌, ◌||◌, List, [], ◌∷◌, ◌++◌, map, eqb, leb, ltb, length, drop}
use Rattle.theory.specs.Text.{bytes}
use Rattle.theory.specs.Same.{eqs}
use Rattle.theory.specs.Every.{run}
use Rattle.theory.specs.Parts.{chop}
use Rattle.theory.specs.Walk.{each}
use Rattle.theory.specs.Join.{flat}
use Rattle.theory.specs.Distinct.{distinct}
use Rattle.theory.specs.First.{Rule, ◌if◌, first}
use Rattle.theory.specs.Stopped.{unless_stopped}
use Rattle.sizes.specs.Sizes.{header_length, line_length, footer_length, lines_most}
use Rattle.texts.specs.Field.{line_end}
use Rattle.fields.specs.Field.{digit}
use Rattle.numbers.specs.Number.{decimal, zeros}
use Rattle.times.specs.Time.{real_time, real_date}
use Rattle.sequences.specs.Sequence.{sequence}
use Rattle.issuers.specs.Rows.{rows_hold, known}
use Rattle.header.specs.Header.{no_list}
use Rattle.frames.specs.Frames.{foot}
use Rattle.lines.specs.Rules.{line_fault}
use Rattle.accounts.specs.Account.{account_length, account_pan, account_line}
use Rattle.writer.specs.Written.{Written}
use Rattle.writer.specs.Given.{Given}

-- the accounts, of 100 bytes each, in their order
abbrev pub accounts_in : List ℕ → ℕ
accounts_in accounts = length accounts / account_length

unfoldable pub accounts_of : List ℕ → List (List ℕ)
accounts_of accounts = chop account_length (accounts_in accounts) accounts

-- ---- the file

-- the list sequence: `HGV`, sender, date, 01-99
unfoldable pub list_of : List ℕ → List ℕ → ℕ → List ℕ
list_of sender date number = flat (bytes "HGV" ∷ sender ∷ date ∷ decimal 2 number ∷ [])

-- the header, text by text: `0`, sender, `000002`, list sequence, previous sequence,
abbrev pub list_texts : List ℕ → List ℕ → ℕ → List ℕ → List (List ℕ)
list_texts sender date number previous = bytes "0" ∷ sender ∷ bytes "000002" ∷ list_of sender date number ∷ previous ∷ []

-- 14 zeros, count, creation, version, 27 zeros, LF
abbrev pub claim_texts : ℕ → List ℕ → ℕ → List (List ℕ)
claim_texts count creation version = zeros 14 ∷ decimal 15 count ∷ creation ∷ decimal 6 version ∷ zeros 27 ∷ line_end ∷ []

unfoldable pub head_of : Given → List ℕ
head_of g =
    flat (list_texts g.sender g.date g.number g.previous ++ claim_texts (accounts_in g.accounts) g.creation g.version)

-- a line for each account, in their order
unfoldable pub lines_for : List ℕ → List ℕ → List (List ℕ)
lines_for sender accounts = map (account_line sender) (accounts_of accounts)

-- header, lines, footer
unfoldable pub file_of : Given → List ℕ
file_of g = head_of g ++ (flat (lines_for g.sender g.accounts) ++ foot)

-- 192 + 128n
abbrev pub file_length : ℕ → ℕ
file_length n = header_length + n * line_length + footer_length

-- ---- what it refuses

-- the header's fields keep their form: the version is 120001 or 220001; the sender is 6 digits, the date a real one, the number 1 to 99;
-- the previous list is one of the sender's, or none; the creation is a real time
unfoldable pub head_fields_hold : ℕ → List ℕ → List ℕ → ℕ → List ℕ → List ℕ → Bool
head_fields_hold version sender date number previous creation =
    (eqb version 120001 || eqb version 220001)
    && run digit 6 sender && real_date date && leb 1 number && leb number 99
    && (sequence sender previous || eqs previous no_list)
    && real_time creation

-- the issuer rows are in form and one has the sender; the accounts are whole, and no more than a file has lines
unfoldable pub blocks_hold : List ℕ → List ℕ → List ℕ → Bool
blocks_hold sender rows accounts =
    rows_hold rows && known rows sender && eqb (length accounts % account_length) 0 && leb (accounts_in accounts) lines_most

-- the line of an account breaks none of L1 to L10
unfoldable pub faultless_line : List ℕ → List ℕ → List ℕ → Bool
faultless_line rows sender a = eqb (line_fault rows sender (account_line sender a)) 0

-- 61 is given where this does not hold
unfoldable pub given_holds : Given → Bool
given_holds g =
    head_fields_hold g.version g.sender g.date g.number g.previous g.creation
    && blocks_hold g.sender g.rows g.accounts
    && each (faultless_line g.rows g.sender) (accounts_of g.accounts)

-- 62 is given where this does not hold: no two accounts have the same 19 bytes of PAN
unfoldable pub pans_apart : List ℕ → Bool
pans_apart accounts = distinct (map account_pan (accounts_of accounts))

-- 61 a field or row breaks its rule, no row has the sender or there are more than 8,192 accounts; 62 the same PAN twice; 63 buffer too
-- short
unfoldable pub write_stops : Given → List ℕ → List Rule
write_stops g out =
    (61 if not (given_holds g))
    ∷ (62 if not (pans_apart g.accounts))
    ∷ (63 if ltb (length out) (file_length (accounts_in g.accounts)))
    ∷ []

-- the number answered: the first that holds, 0 for success
unfoldable pub write_number : Given → List ℕ → ℕ
write_number g out = first (write_stops g out)

-- ---- what it answers and writes

-- a refusal returns its number, and no length
unfoldable pub unwritten : ℕ → Written
unwritten number = record { number = number; length = 0 }

-- success returns 0 and the file's length
unfoldable pub written_whole : Given → Written
written_whole g = record { number = 0; length = length (file_of g) }

unfoldable pub write_answer : Given → List ℕ → Written
write_answer g out = let n : ℕ = write_number g out in unless_stopped n (written_whole g) (unwritten n)

-- the file in front; bytes behind it keep their values
unfoldable pub out_written : Given → List ℕ → List ℕ
out_written g out = file_of g ++ drop (length (file_of g)) out

unfoldable pub out_after : Given → List ℕ → List ℕ
out_after g out = unless_stopped (write_number g out) (out_written g out) out
