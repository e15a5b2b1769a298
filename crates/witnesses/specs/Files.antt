-- Small files, lines and rows, for witnesses. Assumes nothing.
use Rattle.std.specs.Prelude.{List, [], ◌++◌, ℕ, replicate}
use Rattle.theory.specs.Text.{bytes}
use Rattle.sizes.specs.Sizes.{slot_length}
use Rattle.texts.specs.Field.{line_end}

-- two providers, and a row of each
abbrev pub one : List ℕ
one = bytes "900123"

abbrev pub another : List ℕ
another = bytes "900124"

abbrev pub rows : List ℕ
rows = bytes "97990012      081690012397990012      0816900124"

abbrev pub reception : List ℕ
reception = bytes "20250310050000"

-- the night in which summer time begins: half an hour before it and half an hour after, in UTC and as clocks show it that are an
-- hour ahead before and two hours after
abbrev pub winter : List ℕ
winter = bytes "20250330003000"

abbrev pub winter_shown : List ℕ
winter_shown = bytes "20250330013000"

abbrev pub summer : List ℕ
summer = bytes "20250330013000"

abbrev pub summer_shown : List ℕ
summer_shown = bytes "20250330033000"

-- the same moment, taken for winter time
abbrev pub mistaken : List ℕ
mistaken = bytes "20250330023000"

-- a time that is none: 30 February
abbrev pub unreal : List ℕ
unreal = bytes "20250230050000"

-- a buffer whose bytes are none of an HGC's
abbrev pub buffer : List ℕ
buffer = replicate 304 238

-- a free slot
abbrev pub free : List ℕ
free = replicate slot_length 0

-- the list sequence of a provider's list, by its number
abbrev pub list : List ℕ → List ℕ → List ℕ
list from number = bytes "HGV" ++ from ++ bytes "20250310" ++ number

-- a used slot: a record, and the stamp of the list that touched it last, received at t
abbrev pub slot_at : List ℕ → List ℕ → List ℕ → List ℕ → List ℕ
slot_at t from number r = r ++ list from number ++ t ++ bytes "0000000"

abbrev pub slot : List ℕ → List ℕ → List ℕ → List ℕ
slot = slot_at reception

-- ---- lines

-- a line that is taken
abbrev pub line : List ℕ
line = bytes "1900123      9799001200000002   ABC123    NO 12  30C00B00050330C00B001222070321Euro6 02N   004000000000000000000003000000000000" ++ line_end

-- the same account with another plate
abbrev pub replaced : List ℕ
replaced = bytes "1900123      9799001200000002   ABC124    NO 12  30C00B00050330C00B001222070321Euro6 02N   004000000000000000000003000000000000" ++ line_end

-- one that is rejected, as no emission class is Euro9; and its answer
abbrev wrong_text : List ℕ
wrong_text = bytes "1900123      9799001200000002   ABC123    NO 12  30C00B00050330C00B001222070321Euro9 02N   004000000000000000000003000000000000"

abbrev pub wrong : List ℕ
wrong = wrong_text ++ line_end

abbrev pub wrong_answer : List ℕ
wrong_answer = wrong_text ++ bytes "12" ++ line_end

-- another account
abbrev pub other : List ℕ
other = bytes "1900123      9799001200000010   XYZ1      NO 12  30C00B00050330C00B001222070321Euro6 02N   004000000000000000000000000000000000" ++ line_end

-- and one more
abbrev pub third : List ℕ
third = bytes "1900123      9799001200000036   XYZ2      NO 12  30C00B00050330C00B001222070321Euro6 02N   004000000000000000000000000000000000" ++ line_end

-- an account of the other provider
abbrev pub foreign : List ℕ
foreign = bytes "1900124      9799001200000028   DEF456    NO 12  30C00B00050330C00B001222070321Euro6 02N   004000000000000000000000000000000000" ++ line_end

-- an account that has ended before reception, as it is sent and as it is stored
abbrev ended_text : List ℕ
ended_text = bytes "1900123      9799001200000002   ABC123    NO 12  30C00B00050330C00B001222070321Euro6 02N   004000000202501010000003000000000000"

abbrev pub ended : List ℕ
ended = ended_text ++ line_end

abbrev pub stored : List ℕ
stored = bytes "1900123      9799001200000002   ABC123    NO 12  30C00B00050330C00B001222070321Euro6 02N   004000000202503100500003000000000000" ++ line_end

-- that line in the HGC, rejected for the second time that it stands in a file
abbrev pub answered : List ℕ
answered = ended_text ++ bytes "01" ++ line_end

-- ---- whole files

abbrev pub footer : List ℕ
footer = bytes "200000000000000000000000000000000000000000000000000000000000000" ++ line_end

-- an HGV of this sender, with this number, this count and these lines
abbrev pub file : List ℕ → List ℕ → List ℕ → List ℕ → List ℕ
file from number count lines =
    bytes "0" ++ from ++ bytes "000002" ++ list from number ++ bytes "HGV000000000000000000000000000000" ++ count
    ++ bytes "20250310040000120001000000000000000000000000000" ++ line_end ++ lines ++ footer

-- the HGC that answers such a file and shows t as its reception: taken and rejected, `00` or `01`, its lines
abbrev pub confirmed_at : List ℕ → List ℕ → List ℕ → List ℕ → List ℕ → List ℕ → List ℕ → List ℕ
confirmed_at t from number taken rejected outcome lines =
    bytes "0000002" ++ from ++ list from number ++ t ++ taken ++ rejected
    ++ bytes "1200010000000000000000000000000" ++ outcome ++ line_end ++ lines ++ footer

abbrev pub confirmed : List ℕ → List ℕ → List ℕ → List ℕ → List ℕ → List ℕ → List ℕ
confirmed = confirmed_at reception

abbrev pub none : List ℕ
none = bytes "000000000000000"

abbrev pub single : List ℕ
single = bytes "000000000000001"

abbrev pub double : List ℕ
double = bytes "000000000000002"

abbrev pub empty : List ℕ
empty = file one (bytes "01") none []

-- the definition's whole case: the confirmation of a file without lines
abbrev pub whole : List ℕ
whole =
    bytes "0000002900123HGV900123202503100120250310050000000000000000000000000000000000120001000000000000000000000000000" ++ line_end
    ++ footer

abbrev pub good : List ℕ
good = file one (bytes "01") single line

abbrev pub bad : List ℕ
bad = file one (bytes "01") single wrong

abbrev pub bad_hgc : List ℕ
bad_hgc = confirmed one (bytes "01") none single (bytes "01") wrong_answer

abbrev pub next : List ℕ
next = file one (bytes "02") single other

abbrev pub twice : List ℕ
twice = file one (bytes "01") double (ended ++ ended)
