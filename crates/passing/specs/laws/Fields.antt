-- The fields of the file that the writer makes of what is given: header, lines and footer. Assumes nothing.
use Rattle.std.specs.Prelude.{◌≡◌, List, [], ◌∷◌, ◌++◌, ℕ, ◌+◌, ◌≤◌, ◌<◌, length, get_or}
use Rattle.std.proofs.Math.Path.{refl}
use Rattle.std.proofs.Common.{◌∙◌, arith}
use Rattle.theory.specs.Text.{bytes}
use Rattle.sizes.specs.Sizes.{header_length, line_length}
use Rattle.texts.specs.Field.{field, line_end}
use Rattle.texts.specs.laws.Pieces.{behind, piece}
use Rattle.numbers.specs.Number.{number, decimal, zeros}
use Rattle.numbers.specs.laws.Number.{number_2}
use Rattle.hgv.specs.Layout.{width_of, lines_in, lines_of, footer}
use Rattle.hgv.specs.laws.Built.{built_field, built_footer, built_lines_in, built_lines}
use Rattle.header.specs.Header.{sender, receiver, list_sequence, previous, count, creation, version}
use Rattle.frames.specs.Frames.{foot}
use Rattle.frames.specs.laws.Frames.{length_foot}
use Rattle.writer.specs.Given.{Given}
use Rattle.writer.specs.Hgv.{accounts_in, list_of, list_texts, claim_texts, head_of, lines_for, file_of}
use Rattle.writer.specs.laws.Kept.{Kept, sender_length_lem, date_length}
use Rattle.writer.specs.laws.Built.{list_wide, head_wide, length_head, each_line_for, length_lines_for}

module _ (g : Given) (k : Kept g) where
  abbrev pub file : List ℕ
  file = file_of g

  abbrev n : ℕ
  n = accounts_in g.accounts

  -- ---- the header

  abbrev widths : List ℕ
  widths = 1 ∷ 6 ∷ 6 ∷ 19 ∷ 19 ∷ 14 ∷ 15 ∷ 14 ∷ 6 ∷ 27 ∷ 1 ∷ []

  abbrev texts : List (List ℕ)
  texts = list_texts g.sender g.date g.number g.previous ++ claim_texts n g.creation g.version

  -- the text at place i
  text_at_lem : (i from to : ℕ) → i < length widths → 1 ≤ from → from ≤ to → to ≤ header_length → behind i widths + 1 ≡ from → behind (i + 1) widths ≡ to → field from to file ≡ get_or texts i []
  unfolding file_of head_of
  text_at_lem i from to l a b c p q =
      built_field line_length (head_of g) (lines_for g.sender g.accounts) foot (length_head g k) (each_line_for g k) length_foot from to a b c
      ∙ piece i from to (head_wide g k) l p q

  pub type_is : field 1 1 file ≡ bytes "0"
  type_is = text_at_lem 0 1 1 (omega arith) (omega arith) (omega arith) (omega arith) refl refl

  pub sender_is : sender file ≡ g.sender
  sender_is = text_at_lem 1 2 7 (omega arith) (omega arith) (omega arith) (omega arith) refl refl

  pub receiver_is_lem : receiver file ≡ bytes "000002"
  receiver_is_lem = text_at_lem 2 8 13 (omega arith) (omega arith) (omega arith) (omega arith) refl refl

  pub sequence_is : list_sequence file ≡ list_of g.sender g.date g.number
  sequence_is = text_at_lem 3 14 32 (omega arith) (omega arith) (omega arith) (omega arith) refl refl

  pub previous_is : previous file ≡ g.previous
  previous_is = text_at_lem 4 33 51 (omega arith) (omega arith) (omega arith) (omega arith) refl refl

  pub zeros_are : field 52 65 file ≡ zeros 14
  zeros_are = text_at_lem 5 52 65 (omega arith) (omega arith) (omega arith) (omega arith) refl refl

  pub count_is : count file ≡ decimal 15 n
  count_is = text_at_lem 6 66 80 (omega arith) (omega arith) (omega arith) (omega arith) refl refl

  pub creation_is : creation file ≡ g.creation
  creation_is = text_at_lem 7 81 94 (omega arith) (omega arith) (omega arith) (omega arith) refl refl

  pub version_is : version file ≡ decimal 6 g.version
  version_is = text_at_lem 8 95 100 (omega arith) (omega arith) (omega arith) (omega arith) refl refl

  pub filler_is : field 101 127 file ≡ zeros 27
  filler_is = text_at_lem 9 101 127 (omega arith) (omega arith) (omega arith) (omega arith) refl refl

  pub end_is_lem : field header_length header_length file ≡ line_end
  end_is_lem = text_at_lem 10 header_length header_length (omega arith) (omega arith) (omega arith) (omega arith) refl refl

  -- ---- the list sequence

  abbrev list : List ℕ
  list = list_of g.sender g.date g.number

  part_at : (i from to : ℕ) → i < 4 → behind i (3 ∷ 6 ∷ 8 ∷ 2 ∷ []) + 1 ≡ from → behind (i + 1) (3 ∷ 6 ∷ 8 ∷ 2 ∷ []) ≡ to
      → field from to list ≡ get_or (bytes "HGV" ∷ g.sender ∷ g.date ∷ decimal 2 g.number ∷ []) i []
  unfolding list_of
  part_at i from to = piece i from to (list_wide g.sender g.date g.number (sender_length_lem g k) (date_length g k))

  pub list_title : field 1 3 list ≡ bytes "HGV"
  list_title = part_at 0 1 3 (omega arith) refl refl

  pub list_owner : field 4 9 list ≡ g.sender
  list_owner = part_at 1 4 9 (omega arith) refl refl

  pub list_date : field 10 17 list ≡ g.date
  list_date = part_at 2 10 17 (omega arith) refl refl

  pub list_digits : field 18 19 list ≡ decimal 2 g.number
  list_digits = part_at 3 18 19 (omega arith) refl refl

  pub list_number : number (field 18 19 list) ≡ g.number
  list_number = rw list_digits (number_2 g.number k.most)

  -- ---- the lines and the footer

  -- versions 120001 and 220001 have lines of 128
  pub file_width : width_of file ≡ line_length
  unfolding width_of
  file_width = refl

  pub lines_number : lines_in file ≡ n
  unfolding file_of
  lines_number =
      built_lines_in line_length (head_of g) (lines_for g.sender g.accounts) foot (length_head g k) (each_line_for g k) length_foot file_width (omega arith) ∙ length_lines_for g k

  pub lines_are : lines_of file ≡ lines_for g.sender g.accounts
  unfolding file_of
  lines_are = built_lines line_length (head_of g) (lines_for g.sender g.accounts) foot (length_head g k) (each_line_for g k) length_foot file_width (omega arith)

  pub footer_is : footer file ≡ foot
  unfolding file_of
  footer_is = built_footer line_length (head_of g) (lines_for g.sender g.accounts) foot (length_head g k) (each_line_for g k) length_foot
