-- The stamp of a slot: which list touched its account, and when that was received. Assumes nothing.
use Rattle.std.specs.Prelude.{◌≡◌, ℕ, Bool, ◌&&◌, List, ◌++◌, eqb, length}
use Rattle.theory.specs.Text.{bytes}
use Rattle.theory.specs.Every.{run}
use Rattle.sizes.specs.Sizes.{slot_length, stamp_length, stamp_from}
use Rattle.texts.specs.Field.{field}
use Rattle.fields.specs.Field.{zero_digit}
use Rattle.times.specs.Time.{real_time}
use Rattle.sequences.specs.Sequence.{sequence}

-- the stamp of a slot: its positions 129-168, behind the record
abbrev pub stamp_in : List ℕ → List ℕ
stamp_in slot = field stamp_from slot_length slot

-- the list sequence of a stamp, 129-147 of its slot
abbrev pub list_in : List ℕ → List ℕ
list_in s = field 1 19 s

-- the reception of a stamp, 148-161 of its slot
abbrev pub reception_in : List ℕ → List ℕ
reception_in s = field 20 33 s

-- what a list that was received at `reception` stamps: list sequence 19, reception 14, seven characters `0`
unfoldable pub stamp : List ℕ → List ℕ → List ℕ
stamp list reception = list ++ reception ++ bytes "0000000"

-- a slot carries this list and this reception
abbrev pub Carries : List ℕ → List ℕ → List ℕ → Type 0
Carries list reception slot = (list_in (stamp_in slot) ≡ list) × (reception_in (stamp_in slot) ≡ reception)

-- 40 bytes: a list sequence of the actor `who`, a real time, seven characters `0`, 162-168 of its slot (stop 23)
unfoldable pub stamp_holds : List ℕ → List ℕ → Bool
stamp_holds who s =
    eqb (length s) stamp_length && sequence who (list_in s) && real_time (reception_in s) && run zero_digit 7 (field 34 40 s)
