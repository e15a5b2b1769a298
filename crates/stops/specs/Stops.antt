-- The stops of an import that look at what was handed over, before any line is judged: 21 to 32, in their order, and 36 of the
-- indexed import among them. Assumes nothing.
use Rattle.std.specs.Prelude.{ℕ, Bool, not, ◌&&◌, ◌||◌, List, [], ◌∷◌, ◌++◌, eqb, ltb}
use Rattle.theory.specs.First.{Rule, ◌if◌, first}
use Rattle.issuers.specs.Rows.{rows_hold, known}
use Rattle.hgv.specs.Layout.{length_holds}
use Rattle.frames.specs.Frames.{footer_holds, frames_hold}
use Rattle.header.specs.Header.{sender, header_holds}
use Rattle.claims.specs.Claims.{version_holds, incremental_only, receiver_holds, count_holds}
use Rattle.slots.specs.Slots.{slots_in}
use Rattle.register.specs.Register.{in_order}
use Rattle.sizes.specs.Sizes.{incremental}
use Rattle.sizes.specs.Modes.{is_full}

-- 1 or 2
unfoldable pub mode_holds : ℕ → Bool
mode_holds mode = eqb mode incremental || is_full mode

-- 28: mode 2 with 220001
unfoldable pub full_with220001 : ℕ → List ℕ → Bool
full_with220001 mode h = is_full mode && incremental_only h

-- 29 is given where this does not hold: the receiver is 000002, and an issuer row has the sender
unfoldable pub addressed : List ℕ → List ℕ → Bool
addressed b h = receiver_holds h && known b (sender h)

-- 21 to 24: what is handed over beside the file. timed: the reception is a real time that can be shown as local time
unfoldable pub call_stops : ℕ → Bool → List ℕ → List ℕ → List Rule
call_stops mode timed register b =
    (21 if not (mode_holds mode))
    ∷ (22 if not timed)
    ∷ (23 if not (in_order register))
    ∷ (24 if not (rows_hold b))
    ∷ []

-- 25 to 32: the file
unfoldable pub file_stops : ℕ → List ℕ → List ℕ → List Rule
file_stops mode b h =
    (25 if not (length_holds h))
    ∷ (26 if not (header_holds h))
    ∷ (27 if not (version_holds h))
    ∷ (28 if full_with220001 mode h)
    ∷ (29 if not (addressed b h))
    ∷ (30 if not (count_holds h))
    ∷ (31 if not (footer_holds h))
    ∷ (32 if not (frames_hold h))
    ∷ []

unfoldable pub form_stops : ℕ → Bool → List ℕ → List ℕ → List ℕ → List Rule
form_stops mode timed register b h = call_stops mode timed register b ++ file_stops mode b h

-- the first that holds, 0 where none does
unfoldable pub form_stop : ℕ → Bool → List ℕ → List ℕ → List ℕ → ℕ
form_stop mode timed register b h = first (form_stops mode timed register b h)

-- 36, in the indexed import only: its index of k numbers is shorter than the slots, used and free
unfoldable pub index_short : ℕ → List ℕ → Bool
index_short k register = ltb k (slots_in register)

-- after 24 and before 25
unfoldable pub indexed_form_stops : ℕ → Bool → List ℕ → List ℕ → ℕ → List ℕ → List Rule
indexed_form_stops mode timed register b k h = call_stops mode timed register b ++ (36 if index_short k register) ∷ file_stops mode b h

unfoldable pub indexed_form_stop : ℕ → Bool → List ℕ → List ℕ → ℕ → List ℕ → ℕ
indexed_form_stop mode timed register b k h = first (indexed_form_stops mode timed register b k h)
