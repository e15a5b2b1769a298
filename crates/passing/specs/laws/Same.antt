-- One file comes of one list: what is given can be read off it, all but the rows. Assumes nothing.
use Rattle.std.specs.Prelude.{◌≡◌, refl, ℕ, ◌<◌, ◌^◌, eqb, length}
use Rattle.std.proofs.Math.Path.{sym, ap}
use Rattle.std.proofs.Common.{◌∙◌, arith, eqb-true}
use mathlib.Core.List.{List, [], ◌∷◌, map}
use Rattle.theory.specs.laws.Truth.{either}
use Rattle.theory.specs.Each.{Each, none, more}
use Rattle.theory.specs.Join.{flat}
use Rattle.theory.specs.laws.Join.{flat_chop}
use Rattle.texts.specs.Field.{field}
use Rattle.numbers.specs.Number.{number}
use Rattle.numbers.specs.laws.Number.{decimal_one}
use Rattle.hgv.specs.Layout.{lines_of}
use Rattle.header.specs.Header.{sender, list_sequence, previous, creation, version}
use Rattle.accounts.specs.Account.{account_length, sender_length, account_line}
use Rattle.accounts.specs.laws.Account.{account_one}
use Rattle.writer.specs.Given.{Given}
use Rattle.writer.specs.Hgv.{accounts_in, accounts_of, list_of, lines_for, file_of}
use Rattle.writer.specs.laws.Kept.{Kept, sender_length_lem, each_account}
use Rattle.passing.specs.laws.Fields.{sender_is, sequence_is, previous_is, creation_is, version_is, list_date, list_number, lines_are}

-- accounts whose lines are the same are the same
lines_one : (from : List ℕ) → length from ≡ sender_length → {xs ys : List (List ℕ)} → Each (λ a. length a ≡ account_length) xs → Each (λ a. length a ≡ account_length) ys
    → map (account_line from) xs ≡ map (account_line from) ys → xs ≡ ys
lines_one from s none none e = refl
lines_one from s none (more k ks) e = absurd (omega (arith, ap length e))
lines_one from s (more h hs) none e = absurd (omega (arith, ap length e))
lines_one from s (more {x} {xs} h hs) (more {x = y} {xs = ys} k ks) e =
    let p : x ≡ y = account_one from x y s h k (ap first e) in
    rw (p, lines_one from s hs ks (ap rest e))
  where
    first : List (List ℕ) → List ℕ
    first [] = []
    first (z ∷ zs) = z

    rest : List (List ℕ) → List (List ℕ)
    rest [] = []
    rest (z ∷ zs) = zs

-- six digits write a version
pub version_small : (g : Given) → Kept g → g.version < 10 ^ 6
version_small g k =
    either (g.version < 10 ^ 6) (eqb g.version 120001) (eqb g.version 220001) k.versioned (λ e. rw (eqb-true g.version 120001 e) (omega arith)) (λ e. rw (eqb-true g.version 220001 e) (omega arith))

module _ (g g' : Given) (k : Kept g) (k' : Kept g') (e : file_of g ≡ file_of g') where
  pub senders : g.sender ≡ g'.sender
  senders = sym (sender_is g k) ∙ ap sender e ∙ sender_is g' k'

  lists : list_of g.sender g.date g.number ≡ list_of g'.sender g'.date g'.number
  lists = sym (sequence_is g k) ∙ ap list_sequence e ∙ sequence_is g' k'

  pub dates : g.date ≡ g'.date
  dates = sym (list_date g k) ∙ ap (field 10 17) lists ∙ list_date g' k'

  pub numbers : g.number ≡ g'.number
  numbers = sym (list_number g k) ∙ ap (λ (l : List ℕ). number (field 18 19 l)) lists ∙ list_number g' k'

  pub previouses : g.previous ≡ g'.previous
  previouses = sym (previous_is g k) ∙ ap previous e ∙ previous_is g' k'

  pub creations : g.creation ≡ g'.creation
  creations = sym (creation_is g k) ∙ ap creation e ∙ creation_is g' k'

  pub versions : g.version ≡ g'.version
  versions = decimal_one 6 g.version g'.version (version_small g k) (version_small g' k') (sym (version_is g k) ∙ ap version e ∙ version_is g' k')

  parts : accounts_of g.accounts ≡ accounts_of g'.accounts
  unfolding lines_for
  parts =
      let l : map (account_line g.sender) (accounts_of g.accounts) ≡ map (account_line g'.sender) (accounts_of g'.accounts) = sym (lines_are g k) ∙ ap lines_of e ∙ lines_are g' k' in
      lines_one g.sender (sender_length_lem g k) (each_account g k) (each_account g' k') (rw (← senders) at l)

  whole : (x : Given) → Kept x → flat (accounts_of x.accounts) ≡ x.accounts
  unfolding accounts_of
  whole x q = flat_chop account_length (accounts_in x.accounts) x.accounts q.whole

  pub accounts_same : g.accounts ≡ g'.accounts
  accounts_same = sym (whole g k) ∙ ap flat parts ∙ whole g' k'
