-- T18: a lookup answers 0 exactly when the register and its key are in form and exactly one record fits, and what it hands
-- back is that record; a refusal hands nothing back; in a register in order a record's bytes fix its place. Assumes nothing.
use Rattle.std.specs.Prelude.{◌≡◌, ◌&&◌, eqb}
use Rattle.std.proofs.Math.Path.{refl, sym, ap}
use Rattle.std.proofs.Common.{◌∙◌}
use Rattle.std.proofs.Math.Bool.{Bool, true}
use mathlib.Core.List.{List, [], map}
use Prim.Native.Nat.{ℕ, ◌+◌, ◌*◌, ◌≤◌, ◌<◌}
use native.Mathlib.Omega.{arith}
use Rattle.std.proofs.Math.ListN.{length, get_or, get_or-map}
use Rattle.std.proofs.lemmas.List.{length-map}
use borrow.Author.Tests.{not-true, not-false, eq-eqb, ne_eqb, eqb-false, ltb-true, ltb-false}
use Rattle.theory.specs.First.{None, none, more, choose, first}
use Rattle.theory.specs.laws.First.{first_clear, numbered}
use Rattle.theory.specs.laws.Truth.{and_split}
use Rattle.theory.specs.Same.{eqs, mem}
use Rattle.theory.specs.laws.Same.{eqs_true}
use Rattle.theory.specs.Parts.{part_at}
use Rattle.theory.specs.laws.Parts.{part_fits}
use Rattle.theory.specs.laws.Join.{get_d_chop}
use Rattle.theory.specs.Walk.{some}
use Rattle.theory.specs.Keep.{sift}
use Rattle.theory.specs.laws.Counting.{sift_first, sift_some}
use Rattle.theory.specs.laws.Distinct.{mem_at, distinct_places, distinct_single}
use Rattle.theory.specs.Place.{place}
use Rattle.theory.specs.laws.Place.{place_most, place_some, place_hit}
use Rattle.sizes.specs.Sizes.{slot_length}
use Rattle.times.specs.Time.{real_time}
use Rattle.pans.specs.Pan.{pan}
use Rattle.plates.specs.Plate.{plate, nationality}
use Rattle.columns.specs.Columns.{pan_of, plate_of, nationality_of}
use Rattle.lines.specs.End.{active}
use Rattle.texts.specs.Field.{field}
use Rattle.slots.specs.Slots.{records, used_in}
use Rattle.slots.specs.laws.Slots.{records_chop, used_fits}
use Rattle.slots.specs.Search.{holds_pan, place_of}
use Rattle.register.specs.Register.{in_order}
use Rattle.register.specs.laws.Register.{ordered}
use Rattle.lookups.specs.Promises.{ByPan, ByPlate}
use Rattle.lookups.specs.Lookup.{Found, unless_refused, found_at, pan_rules, pan_number, pan_place, pan_slot, fits_plate, fitting_in, plate_rules, plate_number, plate_place, plate_slot}

-- ---- the place of a record that passes: it lies within the register, and its part is the record

module _ (q : List ℕ → Bool) (b : List ℕ) where
  place_room : place q (records b) * slot_length ≤ length b
  place_room = omega (arith, place_most q (records b), used_fits b)

  module _ (h : some q (records b) ≡ true) where
    found_below : place q (records b) < used_in b
    found_below = ltb-true (place q (records b)) (used_in b) (sym (place_some q (records b)) ∙ h)

    found_fits : place q (records b) * slot_length + slot_length ≤ length b
    found_fits = part_fits slot_length (used_in b) (place q (records b)) (length b) (used_fits b) found_below

    found_passes : q (get_or (records b) (place q (records b)) []) ≡ true
    found_passes = place_hit q (records b) found_below

    found_among : mem (get_or (records b) (place q (records b)) []) (records b) ≡ true
    found_among = mem_at (records b) (place q (records b)) found_below

    found_slot : part_at slot_length (place q (records b)) b ≡ get_or (records b) (place q (records b)) []
    found_slot = sym (ap (λ (R : List (List ℕ)). get_or R (place q (records b)) []) (records_chop b) ∙ get_d_chop slot_length (used_in b) b (place q (records b)) found_below)

-- ---- an answer, with the record at place i

module _ (number i : ℕ) (found : Found) (e : found ≡ found_at number i) where
  pub at_number : found.number ≡ number
  unfolding found_at
  at_number = ap (λ (f : Found). f.number) e

  pub at_place : found.place ≡ choose (eqb number 0) i 0
  unfolding found_at
  at_place = ap (λ (f : Found). f.place) e

-- a refusal hands nothing back
refused : (number : ℕ) (slot : List ℕ) → (number ≡ 0 → ⊥) → unless_refused number slot ≡ []
unfolding unless_refused
refused number slot h = rw (ne_eqb number 0 h)

granted : (number : ℕ) (slot : List ℕ) → number ≡ 0 → unless_refused number slot ≡ slot
unfolding unless_refused
granted number slot h = rw (eq-eqb number 0 h)

-- ---- by PAN

-- what the number 0 says of a lookup by PAN: exactly one record has it
pub record PanFound (b key : List ℕ) : Type 0 where
  pub ordered : in_order b ≡ true
  pub keyed : pan key ≡ true
  pub single : length (sift (holds_pan key) (records b)) ≡ 1

-- and of the part handed back
pub record PanAnswer (b key part : List ℕ) : Type 0 where
  pub found : PanFound b key
  pub among : mem part (records b) ≡ true
  pub pan_is : pan_of part ≡ key

module _ (b key : List ℕ) where
  pub pan_found : pan_number b key ≡ 0 → PanFound b key
  unfolding pan_number pan_rules numbered holds_pan
  pan_found h = go (first_clear (pan_rules b key) refl h)
    where
      go : None (pan_rules b key) → PanFound b key
      go (more h₂₃ (more h₄₀ (more h₄₁ none))) =
          let o : in_order b ≡ true = not-false (in_order b) h₂₃ in
          let k : ℕ = length (sift (holds_pan key) (records b)) in
          let m : k ≤ 1 = distinct_single pan_of key (records b) (ordered b o).apart in
          let z : k ≡ 0 → ⊥ = eqb-false k 0 (not-true (eqb k 0) (sym (sift_some (holds_pan key) (records b)) ∙ not-false (some (holds_pan key) (records b)) h₄₁)) in
          record { ordered = o; keyed = not-false (pan key) h₄₀; single = omega arith }

  held : PanFound b key → some (holds_pan key) (records b) ≡ true
  held f = sift_some (holds_pan key) (records b) ∙ rw f.single

  pub found_pan : PanFound b key → pan_number b key ≡ 0
  unfolding pan_number pan_rules first choose
  found_pan f = rw (f.ordered, f.keyed, held f)

  -- the slot is the part at its place
  pub pan_room : pan_place b key * slot_length ≤ length b
  unfolding pan_place place_of
  pan_room = place_room (holds_pan key) b

  pub pan_fits : pan_number b key ≡ 0 → pan_place b key * slot_length + slot_length ≤ length b
  unfolding pan_place place_of
  pan_fits h = found_fits (holds_pan key) b (held (pan_found h))

  pub pan_refused : (pan_number b key ≡ 0 → ⊥) → pan_slot b key ≡ []
  unfolding pan_slot
  pan_refused h = refused (pan_number b key) (get_or (records b) (pan_place b key) []) h

  pub pan_part : pan_number b key ≡ 0 → part_at slot_length (pan_place b key) b ≡ pan_slot b key
  unfolding pan_slot unless_refused pan_place place_of
  pan_part h = rw (eq-eqb (pan_number b key) 0 h) (found_slot (holds_pan key) b (held (pan_found h)))

  -- for every number and part that the contract admits
  module _ (number : ℕ) (part : List ℕ) (c : ByPan b key part number) where
    pub by_pan_found : number ≡ 0 → PanAnswer b key part
    unfolding pan_slot pan_place place_of holds_pan
    by_pan_found z =
        let h : pan_number b key ≡ 0 = sym c.0 ∙ z in
        let q : List ℕ → Bool = holds_pan key in
        let s : some q (records b) ≡ true = held (pan_found h) in
        let e : part ≡ get_or (records b) (place q (records b)) [] = c.1 ∙ granted (pan_number b key) (get_or (records b) (place q (records b)) []) h in
        rw e (record { found = pan_found h; among = found_among q b s; pan_is = eqs_true _ key (found_passes q b s) })

    pub found_by_pan : PanFound b key → number ≡ 0
    found_by_pan f = c.0 ∙ found_pan f

    pub by_pan_refused : (number ≡ 0 → ⊥) → part ≡ []
    by_pan_refused h = c.1 ∙ pan_refused (λ z. h (c.0 ∙ z))

-- ---- by plate

-- what the number 0 says of a lookup by plate: exactly one active record fits
pub record PlateFound (b p n t : List ℕ) : Type 0 where
  pub timed : real_time t ≡ true
  pub ordered : in_order b ≡ true
  pub keyed : plate p && nationality n ≡ true
  pub single : length (fitting_in b p n t) ≡ 1

-- and of the part handed back
pub record PlateAnswer (b p n t part : List ℕ) : Type 0 where
  pub found : PlateFound b p n t
  pub among : mem part (records b) ≡ true
  pub plate_is : plate_of part ≡ p
  pub nationality_is : nationality_of part ≡ n
  pub active_is : active t part ≡ true

module _ (b p n t : List ℕ) where
  pub plate_found : plate_number b p n t ≡ 0 → PlateFound b p n t
  unfolding plate_number plate_rules numbered
  plate_found h = go (first_clear (plate_rules b p n t) refl h)
    where
      go : None (plate_rules b p n t) → PlateFound b p n t
      go (more h₂₂ (more h₂₃ (more h₄₀ (more h₄₁ (more h₄₂ none))))) =
          let k : ℕ = length (fitting_in b p n t) in
          let z : k ≡ 0 → ⊥ = eqb-false k 0 h₄₁ in
          let o : k ≤ 1 = ltb-false 1 k h₄₂ in
          record {
            timed = not-false (real_time t) h₂₂;
            ordered = not-false (in_order b) h₂₃;
            keyed = not-false (plate p && nationality n) h₄₀;
            single = omega arith;
          }

  pub found_plate : PlateFound b p n t → plate_number b p n t ≡ 0
  unfolding plate_number plate_rules first choose
  found_plate f = rw (f.timed, f.ordered, f.keyed, f.single)

  fitted : plate_number b p n t ≡ 0 → some (fits_plate p n t) (records b) ≡ true
  unfolding fitting_in
  fitted h = sift_some (fits_plate p n t) (records b) ∙ rw (plate_found h).single

  -- the slot handed back is the part at its place
  pub plate_room : plate_place b p n t * slot_length ≤ length b
  unfolding plate_place
  plate_room = place_room (fits_plate p n t) b

  pub plate_fits : plate_number b p n t ≡ 0 → plate_place b p n t * slot_length + slot_length ≤ length b
  unfolding plate_place
  plate_fits h = found_fits (fits_plate p n t) b (fitted h)

  pub plate_refused : (plate_number b p n t ≡ 0 → ⊥) → plate_slot b p n t ≡ []
  unfolding plate_slot
  plate_refused h = refused (plate_number b p n t) (get_or (fitting_in b p n t) 0 []) h

  pub plate_part : plate_number b p n t ≡ 0 → part_at slot_length (plate_place b p n t) b ≡ plate_slot b p n t
  unfolding plate_slot unless_refused fitting_in plate_place
  plate_part h = rw (eq-eqb (plate_number b p n t) 0 h) (found_slot (fits_plate p n t) b (fitted h) ∙ sym (sift_first (fits_plate p n t) (records b)))

  -- for every number and part that the contract admits
  module _ (number : ℕ) (part : List ℕ) (c : ByPlate b p n t part number) where
    pub by_plate_found : number ≡ 0 → PlateAnswer b p n t part
    unfolding plate_slot fitting_in fits_plate
    by_plate_found z =
        let h : plate_number b p n t ≡ 0 = sym c.0 ∙ z in
        let q : List ℕ → Bool = fits_plate p n t in
        let r : List ℕ = get_or (records b) (place q (records b)) [] in
        let e : part ≡ r = c.1 ∙ granted (plate_number b p n t) (get_or (fitting_in b p n t) 0 []) h ∙ sift_first q (records b) in
        let s₂ = and_split (eqs (plate_of r) p && eqs (nationality_of r) n) (active t r) (found_passes q b (fitted h)) in
        let s₁ = and_split (eqs (plate_of r) p) (eqs (nationality_of r) n) s₂.0 in
        rw e
        (record {
          found = plate_found h;
          among = found_among q b (fitted h);
          plate_is = eqs_true (plate_of r) p s₁.0;
          nationality_is = eqs_true (nationality_of r) n s₁.1;
          active_is = s₂.1;
        })

    pub found_by_plate : PlateFound b p n t → number ≡ 0
    found_by_plate f = c.0 ∙ found_plate f

    pub by_plate_refused : (number ≡ 0 → ⊥) → part ≡ []
    by_plate_refused h = c.1 ∙ plate_refused (λ z. h (c.0 ∙ z))

-- in a register in order no two places have one PAN, so a record's bytes fix its place
pub bytes_fix : (b : List ℕ) → in_order b ≡ true → (i j : ℕ) → i < used_in b → j < used_in b → get_or (records b) i [] ≡ get_or (records b) j [] → i ≡ j
unfolding field
bytes_fix b h i j k l e =
    let at : (m : ℕ) → get_or (map pan_of (records b)) m [] ≡ pan_of (get_or (records b) m []) = λ m. get_or-map pan_of (records b) m [] in
    distinct_places (map pan_of (records b)) (ordered b h).apart i j (rw (length-map (records b) pan_of) k) (rw (length-map (records b) pan_of) l) (at i ∙ ap pan_of e ∙ sym (at j))
