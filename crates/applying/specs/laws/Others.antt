-- The records of the other actors stay as they were (T9). Assumes nothing.
use Rattle.std.specs.Prelude.{◌≡◌, Bool, cond, ◌&&◌, length}
use Rattle.std.proofs.Math.Path.{refl}
use Rattle.std.proofs.Common.{◌∙◌, true≢false, arith}
use Rattle.std.proofs.Math.Bool.{true, false, not}
use mathlib.Core.List.{List, [], ◌∷◌, ◌++◌, map}
use Prim.Native.Nat.{ℕ, zero, suc, ◌<◌}
use Rattle.std.proofs.Math.ListN.{get_or}
use Rattle.theory.specs.laws.Truth.{or_left, or_right}
use Rattle.theory.specs.Each.{Each, none, more}
use Rattle.theory.specs.laws.Each.{each_map}
use Rattle.theory.specs.Walk.{some}
use Rattle.columns.specs.Columns.{pan_of}
use Rattle.slots.specs.Search.{holds_pan, of_actor, holds_foreign, held_by_another}
use Rattle.holdings.specs.Holdings.{stored_on, stored, stored_all, others, replaced_all, holdings}
use Rattle.sizes.specs.Modes.{is_full}
use Rattle.holdings.specs.laws.Storing.{stored_grows, free_stored, others_replaced}
use Rattle.holdings.proofs.Storing.{others_all}
use Rattle.upkeep.specs.laws.Makes.{each_made}
use Rattle.applying.specs.Fit.{Fit}

module _ (who : List ℕ) where
  -- what is stored under a PAN that no other actor holds leaves each place of another
  place_stored : (x : List ℕ) (R : List (List ℕ)) → held_by_another (pan_of x) who R ≡ false → (i : ℕ) → i < length R → of_actor who (get_or R i []) ≡ false → get_or (stored x R) i [] ≡ get_or R i []
  unfolding stored stored_on held_by_another some holds_foreign
  place_stored x [] h i l o = absurd (omega arith)
  place_stored x (r ∷ R) h zero l o = go (holds_pan (pan_of x) r) (or_left (holds_pan (pan_of x) r && not (of_actor who r)) (some (holds_foreign (pan_of x) who) R) h)
    where
      go : (b : Bool) → b && not (of_actor who r) ≡ false → get_or (stored_on b x r R (stored x R)) 0 [] ≡ r
      go true k = absurd (true≢false (rw o at k))
      go false k = refl
  place_stored x (r ∷ R) h (suc i) l o =
      go (holds_pan (pan_of x) r) (place_stored x R (or_right (holds_pan (pan_of x) r && not (of_actor who r)) (some (holds_foreign (pan_of x) who) R) h) i (omega arith) o)
    where
      go : (b : Bool) → get_or (stored x R) i [] ≡ get_or R i [] → get_or (stored_on b x r R (stored x R)) (suc i) [] ≡ get_or R i []
      go true k = refl
      go false k = k

  place_all : (xs R : List (List ℕ)) → Each (λ x. of_actor who x ≡ true) xs → Each (λ x. held_by_another (pan_of x) who R ≡ false) xs
      → (i : ℕ) → i < length R → of_actor who (get_or R i []) ≡ false → get_or (stored_all R xs) i [] ≡ get_or R i []
  unfolding stored_all
  place_all [] R none none i l o = refl
  place_all (x ∷ xs) R (more w ws) (more h hs) i l o =
      let e = place_stored x R h i l o in
      place_all xs (stored x R) ws (each_map (λ y k. free_stored who (pan_of y) x R w k) hs) i (omega (arith, stored_grows x R)) (rw e o) ∙ e

-- the lines fit, and are the sender's own
module _ (mode : ℕ) (who : List ℕ) (make : List ℕ → List ℕ) (slots : ℕ) (R ls : List (List ℕ)) (f : Fit mode who make slots R ls) (own : Each (λ l. of_actor who l ≡ true) ls) where
  abbrev xs : List (List ℕ)
  xs = map make ls

  pub each_own : Each (λ x. of_actor who x ≡ true) xs
  unfolding of_actor
  each_own = each_made make (λ l. of_actor who l ≡ true) (λ l m e. rw m.his e) f.made own

  pub each_free : Each (λ x. held_by_another (pan_of x) who R ≡ false) xs
  each_free = each_made make (λ l. held_by_another (pan_of l) who R ≡ false) (λ l m e. rw m.pan e) f.made f.free

  -- in either mode they are the same records, in the same order
  pub others_stay : others who (holdings mode who make R ls) ≡ others who R
  unfolding holdings replaced_all
  others_stay = go (is_full mode)
    where
      go : (full : Bool) → others who (cond full (others who R ++ xs) (stored_all R xs)) ≡ others who R
      go true = others_replaced who xs R each_own
      go false = others_all who xs R each_own each_free

  -- in mode 1 each stays in its slot
  pub places_stay : is_full mode ≡ false → (i : ℕ) → i < length R → of_actor who (get_or R i []) ≡ false → get_or (holdings mode who make R ls) i [] ≡ get_or R i []
  unfolding holdings
  places_stay m i l o = rw m (place_all who xs R each_own each_free i l o)
