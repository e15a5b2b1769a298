-- The records that follow make a register in order again, of as many slots (T9). Assumes nothing.
use Rattle.std.specs.Prelude.{◌≡◌, Bool, cond, get_or}
use Rattle.std.proofs.Math.Path.{refl, sym, ap}
use Rattle.std.proofs.Common.{◌∙◌, arith, ltb-true}
use Rattle.std.proofs.Math.Bool.{true, false}
use mathlib.Core.List.{List, [], ◌∷◌, ◌++◌, map}
use Prim.Native.Nat.{ℕ, ◌≤◌, ◌<◌}
use Rattle.std.proofs.Math.ListN.{length, length-append}
use Rattle.theory.specs.laws.Same.{eqs_true}
use Rattle.theory.specs.Each.{Each, none, more}
use Rattle.theory.specs.Walk.{some}
use Rattle.theory.specs.Place.{place}
use Rattle.theory.specs.laws.Place.{place_hit, place_some}
use Rattle.theory.specs.laws.Scan.{some_key}
use Rattle.theory.specs.Join.{flat}
use Rattle.theory.specs.Pad.{pad}
use Rattle.columns.specs.Columns.{pan_of}
use Rattle.sizes.specs.Sizes.{slot_length}
use Rattle.slots.specs.Slots.{slots_in, records}
use Rattle.register.specs.Register.{in_order}
use Rattle.slots.specs.Search.{holds_pan, place_of, of_actor}
use Rattle.sizes.specs.Modes.{is_full}
use Rattle.holdings.specs.Holdings.{stored, stored_all, others, holdings}
use Rattle.holdings.specs.laws.Storing.{stored_held, stored_new, all_grows}
use Rattle.upkeep.specs.Holds.{Holds}
use Rattle.upkeep.specs.Makes.{Makes}
use Rattle.upkeep.specs.laws.Stays.{as_bytes, as_it_is, replaced, added}
use Rattle.removing.specs.laws.Marks.{holds_without}
use Rattle.applying.specs.Fit.{Fit}
use Rattle.applying.specs.laws.Prepared.{prepared, prepared_stored}

-- the bytes that hold the records
abbrev bytes_of : ℕ → List (List ℕ) → List ℕ
bytes_of n R = flat (pad slot_length n R)

module _ (make : List ℕ → List ℕ) (n : ℕ) where
  -- one line stored
  module _ (l : List ℕ) (k : Makes make l) (R : List (List ℕ)) (b : List ℕ) (h : Holds n R b) where
    abbrev x : List ℕ
    x = make l

    held : place_of (pan_of x) R < length R → Holds n (stored x R) (bytes_of n (stored x R))
    unfolding place_of holds_pan
    held p =
        let i : ℕ = place (holds_pan (pan_of x)) R in
        let hit : pan_of x ≡ pan_of (get_or R i []) = sym (eqs_true _ _ (place_hit (holds_pan (pan_of x)) R p)) in
        rw (stored_held x R p)
        (as_bytes n _ _ (rw (h.many, h.held) at (replaced b h.order x k.size k.used i (rw h.held p) (rw h.held hit))))

    new : some (holds_pan (pan_of x)) R ≡ false → length (stored x R) ≤ n → Holds n (stored x R) (bytes_of n (stored x R))
    unfolding holds_pan
    new p m =
        let s : stored x R ≡ R ++ x ∷ [] = stored_new x R p in
        let g : length R < n = omega (arith, ap length s, length-append R (x ∷ [])) in
        rw s
        (as_bytes n _ _ (rw (h.many, h.held) at (added b h.order x k.size k.used (rw (h.many, h.held) g) (rw h.held (sym (some_key pan_of (pan_of x) R) ∙ p)))))

    pub holds_stored : length (stored x R) ≤ n → Holds n (stored x R) (bytes_of n (stored x R))
    unfolding place_of
    holds_stored m = go (some (holds_pan (pan_of x)) R) refl
      where
        go : (t : Bool) → some (holds_pan (pan_of x)) R ≡ t → Holds n (stored x R) (bytes_of n (stored x R))
        go true e = held (ltb-true (place (holds_pan (pan_of x)) R) (length R) (sym (place_some (holds_pan (pan_of x)) R) ∙ e))
        go false e = new e m

  -- all of them
  pub holds_all : {ls : List (List ℕ)} → Each (Makes make) ls → (R : List (List ℕ)) (b : List ℕ) → Holds n R b
      → length (stored_all R (map make ls)) ≤ n → Holds n (stored_all R (map make ls)) (bytes_of n (stored_all R (map make ls)))
  unfolding stored_all
  holds_all none R b h m = as_bytes n R b h
  holds_all (more {x = l} {xs = ls} k ks) R b h m =
      let S : List (List ℕ) = stored (make l) R in
      holds_all ks S (bytes_of n S) (holds_stored l k R b h (omega (arith, all_grows (map make ls) S))) m

module _ (mode : ℕ) (who : List ℕ) (make : List ℕ → List ℕ) (b : List ℕ) (ls : List (List ℕ)) (o : in_order b ≡ true) (f : Fit mode who make (slots_in b) (records b) ls) where
  prepared_holds : Holds (slots_in b) (prepared mode who (records b)) (bytes_of (slots_in b) (prepared mode who (records b)))
  unfolding prepared others
  prepared_holds = go (is_full mode)
    where
      go : (t : Bool) → Holds (slots_in b) (cond t (others who (records b)) (records b)) (bytes_of (slots_in b) (cond t (others who (records b)) (records b)))
      go true = holds_without (of_actor who) (slots_in b) (records b) b (as_it_is b o)
      go false = as_bytes (slots_in b) (records b) b (as_it_is b o)

  -- the register that holds what follows is in order
  pub follows : Holds (slots_in b) (holdings mode who make (records b) ls) (bytes_of (slots_in b) (holdings mode who make (records b) ls))
  follows =
      let e : stored_all (prepared mode who (records b)) (map make ls) ≡ holdings mode who make (records b) ls = prepared_stored mode who make (slots_in b) (records b) ls f in
      rw (← e) (holds_all make (slots_in b) f.made (prepared mode who (records b)) _ prepared_holds (rw e f.room))
