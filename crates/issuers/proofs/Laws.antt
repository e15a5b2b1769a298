-- What the first row that begins a PAN tells of all. Assumes nothing.
use mathlib.Core.Path.{◌≡◌, refl, sym, ap, ◌∙◌}
use mathlib.Core.Bool.{Bool, true, false, cond, ◌&&◌, ◌||◌}
use mathlib.Core.List.{List, [], ◌∷◌}
use Prim.Native.Nat.{ℕ, suc, ◌+◌, ◌-◌, ◌<◌}
use native.Mathlib.Omega.{arith}
use lib.Dec.{eqb, ltb}
use lib.ListN.{length, take, drop, length-drop}
use borrow.Author.Tests.{ltb-true}
use Rattle.std.specs.Prelude.{Some, None, get_or}
use Rattle.std.specs.Option.{is_some, unwrap_or}
use Rattle.std.specs.List.{position, list_any}
use Rattle.std.proofs.lemmas.List.{take_all}
use Rattle.std.proofs.lemmas.List.Quantifiers.{position-Some}
use Rattle.theory.specs.Every.{leading}
use Rattle.theory.specs.Place.{place, place_on}
use Rattle.theory.specs.laws.Place.{place_some}
use Rattle.theory.specs.laws.Words.{some_is, place_is}
use Rattle.fields.specs.Field.{digit}
use Rattle.issuers.specs.Rows.{length_of_pan, row_begins, row_fits}
use Rattle.issuers.specs.laws.Issued.{fits_with, issued_in}

-- ---- a test that only passes where another does

module _ (p q : List ℕ → Bool) (only : (r : List ℕ) → p r ≡ false → q r ≡ false) where
  -- none passes in front of the first that passes the other
  at_first : (xs : List (List ℕ)) → place p xs < length xs → list_any q xs ≡ q (get_or xs (place p xs) []) || list_any q (drop (place p xs + 1) xs)
  unfolding place place_on
  at_first [] h = absurd (omega arith)
  at_first (x ∷ xs) h = go (p x) refl h (at_first xs)
    where
      go : (t : Bool) → p x ≡ t → place_on t (place p xs) < suc (length xs)
          → (place p xs < length xs → list_any q xs ≡ q (get_or xs (place p xs) []) || list_any q (drop (place p xs + 1) xs))
          → list_any q (x ∷ xs) ≡ q (get_or (x ∷ xs) (place_on t (place p xs)) []) || list_any q (drop (place_on t (place p xs) + 1) (x ∷ xs))
      go true e h ih = refl
      go false e h ih = let d : suc (place p xs) + 1 ≡ suc (place p xs + 1) = omega arith in rw (only x e, d) (ih (omega arith))

  any_within : (xs : List (List ℕ)) → list_any q xs ≡ list_any p xs && list_any q xs
  any_within [] = refl
  any_within (x ∷ xs) = go (p x) refl (any_within xs)
    where
      go : (t : Bool) → p x ≡ t → list_any q xs ≡ list_any p xs && list_any q xs → q x || list_any q xs ≡ (t || list_any p xs) && (q x || list_any q xs)
      go true e ih = refl
      go false e ih = rw (only x e) ih

some_place : (p : List ℕ → Bool) (xs : List (List ℕ)) → list_any p xs ≡ ltb (place p xs) (length xs)
some_place p xs = sym (some_is p xs) ∙ place_some p xs

-- all behind a place
pub rest_is : (n : ℕ) (xs : List (List ℕ)) → take (length xs - n) (drop n xs) ≡ drop n xs
rest_is n xs = take_all (length xs - n) (drop n xs) (omega (arith, length-drop n xs))

-- ---- of the rows

module _ (sender pan : List ℕ) (rows : List (List ℕ)) where
  begins : List ℕ → Bool
  begins = row_begins sender pan

  unbegun : (r : List ℕ) → row_begins sender pan r ≡ false → row_fits sender pan r ≡ false
  unfolding row_fits
  unbegun r e = rw e refl

  begun : list_any (row_begins sender pan) rows ≡ is_some (position (row_begins sender pan) rows)
  begun = some_place (row_begins sender pan) rows ∙ rw (← place_is (row_begins sender pan) rows) (go (ltb (place (row_begins sender pan) rows) (length rows)))
    where
      go : (t : Bool) → t ≡ is_some (cond t (Some (place (row_begins sender pan) rows)) None)
      go true = refl
      go false = refl

  pub none_found : position (row_begins sender pan) rows ≡ None → record { begins = false; fits = false } ≡ issued_in sender pan rows
  none_found e =
      let b : list_any (row_begins sender pan) rows ≡ false = begun ∙ ap is_some e in
      let f : list_any (row_fits sender pan) rows ≡ false = any_within (row_begins sender pan) (row_fits sender pan) unbegun rows ∙ rw b refl in
      rw (b, f) refl

  module _ (k digits : ℕ) (at : position (row_begins sender pan) rows ≡ Some k) (d : digits ≡ leading digit pan) where
    -- the place is that of a row, which begins the PAN, and the first that does
    pub found : (k < length rows) × (row_begins sender pan (get_or rows k []) ≡ true)
    found = let h = position-Some (row_begins sender pan) rows k [] at in (h.0, h.1)

    found_place : (place (row_begins sender pan) rows < length rows) × (k ≡ place (row_begins sender pan) rows)
    found_place =
        let l : ltb (place (row_begins sender pan) rows) (length rows) ≡ true = sym (some_place (row_begins sender pan) rows) ∙ (begun ∙ ap is_some at) in
        let s : position (row_begins sender pan) rows ≡ Some (place (row_begins sender pan) rows) = rw (← place_is (row_begins sender pan) rows, l) refl in
        (ltb-true (place (row_begins sender pan) rows) (length rows) l, ap (λ o. unwrap_or o 0) (sym at ∙ s))

    any_fits : (xs : List (List ℕ)) → list_any (fits_with sender pan digits) xs ≡ list_any (row_fits sender pan) xs
    unfolding fits_with row_fits
    any_fits [] = refl
    any_fits (x ∷ xs) = rw (d, any_fits xs) refl

    -- whether a row fits, by that row and those behind it
    pub first_found : (h s : Bool) → h ≡ eqb (length_of_pan (get_or rows k [])) digits → s ≡ list_any (fits_with sender pan digits) (drop (k + 1) rows)
        → record { begins = true; fits = h || s } ≡ issued_in sender pan rows
    unfolding row_fits
    first_found h s e f =
        let p = found_place in
        let b : list_any (row_begins sender pan) rows ≡ true = begun ∙ ap is_some at in
        let v : row_fits sender pan (get_or rows k []) ≡ h = rw (found.1, e, d) refl in
        let w : list_any (row_fits sender pan) rows ≡ row_fits sender pan (get_or rows k []) || list_any (row_fits sender pan) (drop (k + 1) rows) = rw p.1 (at_first (row_begins sender pan) (row_fits sender pan) unbegun rows p.0) in
        rw (b, w, v, f, any_fits (drop (k + 1) rows)) refl
