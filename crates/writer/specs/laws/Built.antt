-- The file as a header of 128, lines of 128 and a footer: how long each is, and the header's fields. Assumes nothing.
use Rattle.std.specs.Prelude.{◌≡◌, refl, List, [], ◌∷◌, ◌++◌, ℕ, length}
use Rattle.std.proofs.Common.{◌∙◌, arith}
use Rattle.std.proofs.Math.ListN.{length-map}
use Rattle.theory.specs.Text.{bytes}
use Rattle.theory.specs.Each.{Each}
use Rattle.theory.specs.laws.Each.{each_map, each_of_map}
use Rattle.theory.specs.laws.Parts.{length_chop}
use Rattle.sizes.specs.Sizes.{header_length, line_length}
use Rattle.texts.specs.laws.Pieces.{Wide, no_more, then, wide_append, length_pieces}
use Rattle.numbers.specs.Number.{decimal}
use Rattle.numbers.specs.laws.Number.{length_decimal, length_zeros}
use Rattle.frames.specs.Frames.{foot}
use Rattle.frames.specs.laws.Frames.{length_foot}
use Rattle.hgv.specs.laws.Built.{built_length}
use Rattle.accounts.specs.Account.{account_length, account_line}
use Rattle.accounts.specs.laws.Account.{length_line}
use Rattle.writer.specs.Given.{Given}
use Rattle.writer.specs.Hgv.{accounts_in, accounts_of, list_of, list_texts, claim_texts, head_of, lines_for, file_of, file_length}
use Rattle.writer.specs.laws.Kept.{Kept, sender_length_lem, date_length, previous_length, creation_length, each_account}

-- the texts of the list sequence, and of the header in its two halves
pub list_wide : (sender date : List ℕ) (number : ℕ) → length sender ≡ 6 → length date ≡ 8 → Wide (3 ∷ 6 ∷ 8 ∷ 2 ∷ []) (bytes "HGV" ∷ sender ∷ date ∷ decimal 2 number ∷ [])
list_wide sender date number s d = then refl (then s (then d (then (length_decimal 2 number) no_more)))

pub length_list : (sender date : List ℕ) (number : ℕ) → length sender ≡ 6 → length date ≡ 8 → length (list_of sender date number) ≡ 19
unfolding list_of
length_list sender date number s d = length_pieces (list_wide sender date number s d)

pub names_wide : (sender date : List ℕ) (number : ℕ) (previous : List ℕ) → length sender ≡ 6 → length date ≡ 8 → length previous ≡ 19 → Wide (1 ∷ 6 ∷ 6 ∷ 19 ∷ 19 ∷ []) (list_texts sender date number previous)
names_wide sender date number previous s d p = then refl (then s (then refl (then (length_list sender date number s d) (then p no_more))))

pub claims_wide : (count : ℕ) (creation : List ℕ) (version : ℕ) → length creation ≡ 14 → Wide (14 ∷ 15 ∷ 14 ∷ 6 ∷ 27 ∷ 1 ∷ []) (claim_texts count creation version)
claims_wide count creation version c = then (length_zeros 14) (then (length_decimal 15 _) (then c (then (length_decimal 6 _) (then (length_zeros 27) (then refl no_more)))))

module _ (g : Given) (k : Kept g) where
  abbrev n : ℕ
  n = accounts_in g.accounts

  pub head_wide : Wide (1 ∷ 6 ∷ 6 ∷ 19 ∷ 19 ∷ 14 ∷ 15 ∷ 14 ∷ 6 ∷ 27 ∷ 1 ∷ []) (list_texts g.sender g.date g.number g.previous ++ claim_texts n g.creation g.version)
  head_wide =
      wide_append (names_wide g.sender g.date g.number g.previous (sender_length_lem g k) (date_length g k) (previous_length g k))
      (claims_wide n g.creation g.version (creation_length g k))

  pub length_head : length (head_of g) ≡ header_length
  unfolding head_of
  length_head = length_pieces head_wide

  pub length_lines_for : length (lines_for g.sender g.accounts) ≡ n
  unfolding lines_for accounts_of
  length_lines_for = length-map (accounts_of g.accounts) (account_line g.sender) ∙ length_chop account_length n g.accounts

  pub each_line_for : Each (λ l. length l ≡ line_length) (lines_for g.sender g.accounts)
  unfolding lines_for
  each_line_for = each_of_map (account_line g.sender) (accounts_of g.accounts) (each_map (λ a e. length_line a e g.sender (sender_length_lem g k)) (each_account g k))

  pub length_file : length (file_of g) ≡ file_length n
  unfolding file_of
  length_file =
      built_length line_length (head_of g) (lines_for g.sender g.accounts) foot length_head each_line_for length_foot ∙ rw length_lines_for (omega arith)
