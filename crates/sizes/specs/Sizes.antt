-- The sizes of the document, in bytes and in parts, and the two modes: each number once. Assumes nothing.
use Rattle.std.specs.Prelude.{ℕ}

-- no file has more lines, and no register more slots
abbrev pub parts_most : ℕ
parts_most = 8192

-- the HGV: header 128, lines of 128; 0 to 8,192 lines
abbrev pub header_length : ℕ
header_length = 128

abbrev pub line_length : ℕ
line_length = 128

-- no line is wider
abbrev pub line_most : ℕ
line_most = line_length

abbrev pub lines_most : ℕ
lines_most = parts_most

-- the footer, of either file
abbrev pub footer_length : ℕ
footer_length = 64

-- the HGC: its header, and the reason by which a line of it is longer than the HGV's
abbrev pub hgc_header_length : ℕ
hgc_header_length = 110

abbrev pub reason_length : ℕ
reason_length = 2

-- the register: slots of 168 bytes, 0 to 8,192 of them; in a used one a record, with its LF at 128, and its stamp of 40
abbrev pub slot_length : ℕ
slot_length = 168

abbrev pub slot_end : ℕ
slot_end = 128

abbrev pub stamp_length : ℕ
stamp_length = 40

abbrev pub stamp_from : ℕ
stamp_from = 129

abbrev pub slots_most : ℕ
slots_most = parts_most

-- the issuer rows: 0 to 64 rows of 24 bytes
abbrev pub row_length : ℕ
row_length = 24

abbrev pub rows_most : ℕ
rows_most = 64

abbrev pub time_length : ℕ
time_length = 14

-- mode is 1 (incremental) or 2 (full)
abbrev pub incremental : ℕ
incremental = 1

abbrev pub full : ℕ
full = 2
