-- What is given where 61 is not: each field, row and account keeps its rule. Assumes nothing.
use Rattle.std.specs.Prelude.{◌≡◌, true, ◌&&◌, ◌||◌, ℕ, ◌*◌, ◌%◌, ◌≤◌, length}
use Rattle.std.proofs.Common.{ap, arith, div-add-mod', eqb-true, leb-true}
use Rattle.std.proofs.Math.Bool.{Bool}
use mathlib.Core.List.{List, [], ◌∷◌}
use Rattle.std.proofs.Math.Dec.{eqb, leb}
use Rattle.theory.specs.laws.Truth.{and_left, and_split, either, joined, joined_each}
use Rattle.theory.specs.Each.{Each, none, more}
use Rattle.theory.specs.laws.Each.{each_map}
use Rattle.theory.specs.Same.{eqs}
use Rattle.theory.specs.laws.Same.{eqs_true}
use Rattle.theory.specs.Every.{run}
use Rattle.theory.specs.laws.Every.{run_length}
use Rattle.theory.specs.Walk.{each}
use Rattle.theory.specs.laws.Walk.{each_passes}
use Rattle.theory.specs.laws.Join.{each_chop}
use Rattle.sizes.specs.Sizes.{lines_most, time_length}
use Rattle.fields.specs.Field.{digit}
use Rattle.calendar.specs.Calendar.{real_day}
use Rattle.times.specs.Time.{year, month, day, real_time, real_date}
use Rattle.times.specs.laws.Date.{date_is}
use Rattle.times.specs.laws.Moment.{real_length}
use Rattle.sequences.specs.Sequence.{sequence}
use Rattle.sequences.specs.laws.Length.{sequence_length}
use Rattle.issuers.specs.Rows.{rows_hold, known}
use Rattle.header.specs.Header.{no_list}
use Rattle.lines.specs.Rules.{line_fault}
use Rattle.accounts.specs.Account.{account_length, sender_length, account_line}
use Rattle.writer.specs.Given.{Given}
use Rattle.writer.specs.Hgv.{accounts_in, accounts_of, head_fields_hold, blocks_hold, faultless_line, given_holds}

date_sized : (date : List ℕ) → real_date date ≡ true → length date ≡ 8
date_sized date h = run_length digit 8 date (and_left (run digit 8 date) (real_day (year date) (month date) (day date)) (rw (date_is date) at h))

previous_sized : (sender previous : List ℕ) → sequence sender previous || eqs previous no_list ≡ true → length previous ≡ 19
previous_sized sender previous h =
    either (length previous ≡ 19) (sequence sender previous) (eqs previous no_list) h (sequence_length sender previous) (λ e. ap length (eqs_true previous no_list e))

pub record Sized (sender date previous creation : List ℕ) : Type 0 where
  pub of_sender : length sender ≡ sender_length
  pub of_date : length date ≡ 8
  pub of_previous : length previous ≡ 19
  pub of_creation : length creation ≡ time_length

-- what the header's fields then are
pub record HeadKept (version : ℕ) (sender date : List ℕ) (number : ℕ) (previous creation : List ℕ) : Type 0 where
  pub versioned : eqb version 120001 || eqb version 220001 ≡ true
  pub six : run digit 6 sender ≡ true
  pub dated : real_date date ≡ true
  pub least : 1 ≤ number
  pub most : number ≤ 99
  pub preceded : sequence sender previous || eqs previous no_list ≡ true
  pub created : real_time creation ≡ true

module _ (version : ℕ) (sender date : List ℕ) (number : ℕ) (previous creation : List ℕ) where
  pub head_kept : head_fields_hold version sender date number previous creation ≡ true → HeadKept version sender date number previous creation
  unfolding head_fields_hold joined
  head_kept h = go (joined_each (eqb version 120001 || eqb version 220001) behind h)
    where
      behind : List Bool
      behind = run digit 6 sender ∷ real_date date ∷ leb 1 number ∷ leb number 99 ∷ (sequence sender previous || eqs previous no_list) ∷ real_time creation ∷ []

      go : Each (λ b. b ≡ true) ((eqb version 120001 || eqb version 220001) ∷ behind) → HeadKept version sender date number previous creation
      go (more a₁ (more a₂ (more a₃ (more a₄ (more a₅ (more a₆ (more a₇ none))))))) =
          record { versioned = a₁; six = a₂; dated = a₃; least = leb-true 1 number a₄; most = leb-true number 99 a₅; preceded = a₆; created = a₇ }

  -- how long they are
  pub sized : head_fields_hold version sender date number previous creation ≡ true → Sized sender date previous creation
  sized h =
      let k : HeadKept version sender date number previous creation = head_kept h in
      record { of_sender = run_length digit 6 sender k.six; of_date = date_sized date k.dated; of_previous = previous_sized sender previous k.preceded; of_creation = real_length creation k.created }

pub record Kept (g : Given) : Type 0 where
  pub versioned : eqb g.version 120001 || eqb g.version 220001 ≡ true
  pub six : run digit 6 g.sender ≡ true
  pub dated : real_date g.date ≡ true
  pub least : 1 ≤ g.number
  pub most : g.number ≤ 99
  pub preceded : sequence g.sender g.previous || eqs g.previous no_list ≡ true
  pub created : real_time g.creation ≡ true
  pub rowed : rows_hold g.rows ≡ true
  pub sent : known g.rows g.sender ≡ true
  pub whole : length g.accounts ≡ accounts_in g.accounts * account_length
  pub few : accounts_in g.accounts ≤ lines_most
  pub faultless : Each (λ a. line_fault g.rows g.sender (account_line g.sender a) ≡ 0) (accounts_of g.accounts)

module _ (g : Given) where
  abbrev names : Bool
  names = head_fields_hold g.version g.sender g.date g.number g.previous g.creation

  abbrev blocks : Bool
  blocks = blocks_hold g.sender g.rows g.accounts

  abbrev faultless_all : Bool
  faultless_all = each (faultless_line g.rows g.sender) (accounts_of g.accounts)

  pub kept : given_holds g ≡ true → Kept g
  unfolding given_holds blocks_hold faultless_line joined
  kept h =
      let s = and_split (names && blocks) faultless_all h in
      let t = and_split names blocks s.0 in
      go (head_kept g.version g.sender g.date g.number g.previous g.creation t.0) (joined_each (rows_hold g.rows) behind t.1) (each_passes (faultless_line g.rows g.sender) (accounts_of g.accounts) s.1)
    where
      behind : List Bool
      behind = known g.rows g.sender ∷ eqb (length g.accounts % account_length) 0 ∷ leb (accounts_in g.accounts) lines_most ∷ []

      go : HeadKept g.version g.sender g.date g.number g.previous g.creation → Each (λ b. b ≡ true) (rows_hold g.rows ∷ behind) → Each (λ a. faultless_line g.rows g.sender a ≡ true) (accounts_of g.accounts) → Kept g
      go k (more b₁ (more b₂ (more b₃ (more b₄ none)))) f =
          record {
            versioned = k.versioned;
            six = k.six;
            dated = k.dated;
            least = k.least;
            most = k.most;
            preceded = k.preceded;
            created = k.created;
            rowed = b₁;
            sent = b₂;
            whole = omega (arith, div-add-mod' (length g.accounts) account_length, eqb-true (length g.accounts % account_length) 0 b₃);
            few = leb-true (accounts_in g.accounts) lines_most b₄;
            faultless = each_map (λ a e. eqb-true (line_fault g.rows g.sender (account_line g.sender a)) 0 e) f;
          }

  -- ---- how long they are

  module _ (k : Kept g) where
    pub sender_length_lem : length g.sender ≡ sender_length
    sender_length_lem = run_length digit 6 g.sender k.six

    pub date_length : length g.date ≡ 8
    date_length = date_sized g.date k.dated

    pub previous_length : length g.previous ≡ 19
    previous_length = previous_sized g.sender g.previous k.preceded

    pub creation_length : length g.creation ≡ time_length
    creation_length = real_length g.creation k.created

    pub each_account : Each (λ a. length a ≡ account_length) (accounts_of g.accounts)
    unfolding accounts_of
    each_account = each_chop account_length (accounts_in g.accounts) g.accounts (omega (arith, k.whole))
