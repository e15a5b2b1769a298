-- The import: its stops, its answer, the register after it and the HGC's buffer after it, for every mode and every text
-- of every length. f is what is handed over. Assumes nothing.
use Rattle.std.specs.Prelude.{ℕ, Bool, List, [], ◌∷◌, ◌++◌, ltb, length, drop}
use Rattle.theory.specs.First.{Rule, ◌if◌, first}
use Rattle.theory.specs.Stopped.{unless_stopped}
use Rattle.theory.specs.Join.{flat}
use Rattle.theory.specs.Pad.{pad}
use Rattle.theory.specs.Pick.{good, bad}
use Rattle.theory.specs.Tally.{tally}
use Rattle.header.specs.Header.{sender, list_sequence}
use Rattle.sizes.specs.Sizes.{slot_length}
use Rattle.stamps.specs.Stamp.{stamp}
use Rattle.records.specs.Slot.{slot_of}
use Rattle.slots.specs.Slots.{slots_in, records}
use Rattle.verdicts.specs.Verdict.{file_verdicts, taken}
use Rattle.hgc.specs.Confirmation.{confirmation}
use Rattle.thinness.specs.Thin.{thin}
use Rattle.holdings.specs.Holdings.{holdings}
use Rattle.offsets.specs.Offset.{local, reception_holds}
use Rattle.stops.specs.Stops.{form_stops}
use Rattle.imports.specs.Imported.{Imported}
use Rattle.imports.specs.Handed.{Handed}

-- the verdicts of the lines of the HGV h, beside the register as it was
unfoldable pub judged : List ℕ → List ℕ → List ℕ → List ℕ
judged register rows h = file_verdicts rows (records register) h

-- what each taken line's slot is stamped with: the file's list, and when it was received, in UTC
abbrev pub file_stamp : Handed → List ℕ
file_stamp f = stamp (list_sequence f.hgv) f.reception

-- the records that follow
unfoldable pub following : Handed → List ℕ → List (List ℕ)
following f register =
    holdings f.mode (sender f.hgv) (slot_of (file_stamp f)) (records register) (taken (judged register f.rows f.hgv) f.hgv)

-- when the file was received, as its sender is shown it: in his local time
abbrev pub shown : Handed → List ℕ
shown f = local f.offset f.reception

-- the confirmation that answers the file
unfoldable pub confirmed : Handed → List ℕ → List ℕ
confirmed f register = confirmation (shown f) f.hgv (judged register f.rows f.hgv)

-- 35 a full list that is too thin; 33 more used slots would follow than there are; 34 HGC buffer too short
unfoldable pub judged_stops : Handed → List ℕ → List Rule
judged_stops f register =
    (35 if thin f.mode (sender f.hgv) (records register) (tally good (judged register f.rows f.hgv)))
    ∷ (33 if ltb (slots_in register) (length (following f register)))
    ∷ (34 if ltb (length f.hgc) (length (confirmed f register)))
    ∷ []

-- 22 is given where this does not hold
abbrev pub timed : Handed → Bool
timed f = reception_holds f.offset f.reception

-- all stops, in their order
unfoldable pub stops : Handed → List ℕ → List Rule
stops f register = form_stops f.mode (timed f) register f.rows f.hgv ++ judged_stops f register

-- the number answered: the first that holds, 0 for success
unfoldable pub import_number : Handed → List ℕ → ℕ
import_number f register = first (stops f register)

-- the four numbers that are answered
abbrev pub answered : ℕ → ℕ → ℕ → ℕ → Imported
answered number taken rejected size = record { number = number; taken = taken; rejected = rejected; length = size }

-- a stop returns its number and zero counts
unfoldable pub refusal : ℕ → Imported
refusal number = answered number 0 0 0

-- success returns 0 and the three numbers
unfoldable pub success : Handed → List ℕ → Imported
success f register =
    let vs : List ℕ = judged register f.rows f.hgv in
    record { number = 0; taken = tally good vs; rejected = tally bad vs; length = length (confirmed f register) }

-- what is answered at the number n
abbrev pub answer_at : ℕ → Handed → List ℕ → Imported
answer_at n f register = unless_stopped n (success f register) (refusal n)

unfoldable pub import_answer : Handed → List ℕ → Imported
import_answer f register = answer_at (import_number f register) f register

-- the records that follow, and free slots behind them
unfoldable pub register_written : Handed → List ℕ → List ℕ
register_written f register = flat (pad slot_length (slots_in register) (following f register))

-- the register after the number n: at a stop no byte of it differs
abbrev pub register_at : ℕ → Handed → List ℕ → List ℕ
register_at n f register = unless_stopped n (register_written f register) register

unfoldable pub register_after : Handed → List ℕ → List ℕ
register_after f register = register_at (import_number f register) f register

-- the confirmation in front; bytes beyond it keep their values
unfoldable pub hgc_written : Handed → List ℕ → List ℕ
hgc_written f register = let c : List ℕ = confirmed f register in c ++ drop (length c) f.hgc

-- and the HGC's buffer
abbrev pub hgc_at : ℕ → Handed → List ℕ → List ℕ
hgc_at n f register = unless_stopped n (hgc_written f register) f.hgc

unfoldable pub hgc_after : Handed → List ℕ → List ℕ
hgc_after f register = hgc_at (import_number f register) f register
