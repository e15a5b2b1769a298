-- The lookups by PAN, and by plate, nationality and time: the number that each answers, the place of
-- its record, and the slot. Assumes nothing.
use Rattle.std.specs.Prelude.{ℕ, Bool, not, cond, ◌&&◌, Result, Ok, Err, List, [], ◌∷◌, eqb, ltb, length, get_or}
use Rattle.std.specs.Borrow.{Bor}
use Rattle.theory.specs.First.{Rule, ◌if◌, choose, first}
use Rattle.theory.specs.Same.{eqs}
use Rattle.theory.specs.Walk.{some}
use Rattle.theory.specs.Keep.{sift}
use Rattle.theory.specs.Place.{place}
use Rattle.rules.specs.declared.refusal.Refusal.{Refusal}
use Rattle.rules.specs.Numbers.{refusal_number}
use Rattle.times.specs.Time.{real_time}
use Rattle.pans.specs.Pan.{pan}
use Rattle.plates.specs.Plate.{plate, nationality}
use Rattle.columns.specs.Columns.{plate_of, nationality_of}
use Rattle.lines.specs.End.{active}
use Rattle.slots.specs.Slots.{records}
use Rattle.slots.specs.Search.{holds_pan, place_of}
use Rattle.register.specs.Register.{in_order}

-- what a lookup found: 0 or its number, and the place of the record
pub record Found : Type 0 where
  pub number : ℕ
  pub place : ℕ

-- as the code answers it: a refusal has the place 0
abbrev pub told : Result ℕ Refusal → Found
told (Ok i) = record { number = 0; place = i }
told (Err e) = record { number = refusal_number e; place = 0 }

-- the slot as the code lends it: nothing at a refusal
abbrev pub lent : Result (Bor (List ℕ)) Refusal → List ℕ
lent (Ok s) = s.now
lent (Err e) = []

-- a refusal answers with an empty part
unfoldable pub unless_refused : ℕ → List ℕ → List ℕ
unless_refused number slot = cond (eqb number 0) slot []

-- and has the place 0
unfoldable pub found_at : ℕ → ℕ → Found
found_at number i = record { number = number; place = choose (eqb number 0) i 0 }

-- ---- by PAN (19 bytes as in L1)

-- 23, 40 bad key, 41 none
unfoldable pub pan_rules : List ℕ → List ℕ → List Rule
pan_rules b key =
    (23 if not (in_order b))
    ∷ (40 if not (pan key))
    ∷ (41 if not (some (holds_pan key) (records b)))
    ∷ []

unfoldable pub pan_number : List ℕ → List ℕ → ℕ
pan_number b key = first (pan_rules b key)

-- the place of the record with this PAN, or the number of records
unfoldable pub pan_place : List ℕ → List ℕ → ℕ
pan_place b key = place_of key (records b)

-- the slot itself
unfoldable pub pan_slot : List ℕ → List ℕ → List ℕ
pan_slot b key = unless_refused (pan_number b key) (get_or (records b) (pan_place b key) [])

-- ---- by plate, nationality and time

-- a record with this plate and nationality that is active at t
unfoldable pub fits_plate : List ℕ → List ℕ → List ℕ → List ℕ → Bool
fits_plate p n t r = eqs (plate_of r) p && eqs (nationality_of r) n && active t r

unfoldable pub fitting_in : List ℕ → List ℕ → List ℕ → List ℕ → List (List ℕ)
fitting_in b p n t = sift (fits_plate p n t) (records b)

-- 22, 23, 40 (L6, L7), 41 no active record, 42 more than one
unfoldable pub plate_rules : List ℕ → List ℕ → List ℕ → List ℕ → List Rule
plate_rules b p n t =
    (22 if not (real_time t))
    ∷ (23 if not (in_order b))
    ∷ (40 if not (plate p && nationality n))
    ∷ (41 if eqb (length (fitting_in b p n t)) 0)
    ∷ (42 if ltb 1 (length (fitting_in b p n t)))
    ∷ []

unfoldable pub plate_number : List ℕ → List ℕ → List ℕ → List ℕ → ℕ
plate_number b p n t = first (plate_rules b p n t)

-- the place of the first that fits, or the number of records
unfoldable pub plate_place : List ℕ → List ℕ → List ℕ → List ℕ → ℕ
plate_place b p n t = place (fits_plate p n t) (records b)

-- the slot itself: the one that fits
unfoldable pub plate_slot : List ℕ → List ℕ → List ℕ → List ℕ → List ℕ
plate_slot b p n t = unless_refused (plate_number b p n t) (get_or (fitting_in b p n t) 0 [])
