-- Laws of how many slots are used when lines have been applied. Assumes nothing.
use Rattle.std.specs.Prelude.{◌≡◌, Bool, not, cond, ◌&&◌, length, take, drop}
use Rattle.std.proofs.Math.Path.{refl}
use Rattle.std.proofs.Common.{sym, ◌∙◌, length-append, eq-eqb}
use Rattle.std.proofs.Math.Bool.{true, false}
use mathlib.Core.List.{List, [], ◌∷◌, ◌++◌, map}
use Prim.Native.Nat.{ℕ, suc, ◌+◌, ◌*◌, ◌≤◌}
use native.Mathlib.Omega.{arith}
use Rattle.std.proofs.lemmas.List.{length-map}
use Rattle.std.proofs.Math.Seq.{drop-drop}
use Rattle.theory.specs.Keep.{sift}
use Rattle.theory.specs.laws.Keep.{sift_length, length_sift_onto, sift_counts}
use Rattle.theory.specs.Parts.{chop, part_at}
use Rattle.theory.specs.laws.Parts.{length_chop}
use Rattle.theory.specs.Pick.{good, pick}
use Rattle.theory.specs.Tally.{tally}
use Rattle.theory.specs.laws.Tally.{tally_pick}
use Rattle.theory.specs.laws.Place.{place_some}
use Rattle.columns.specs.Columns.{pan_of}
use Rattle.slots.specs.Search.{holds_pan, place_of, of_actor, count_of}
use Rattle.taken.specs.Taken.{taken_in}
use Rattle.sizes.specs.Sizes.{full}
use Rattle.holdings.specs.Holdings.{stored_all, others, replaced_all, holdings}
use Rattle.sizes.specs.Modes.{is_full}
use Rattle.holdings.specs.Room.{is_new, used_after, is_behind, used_by}
use Rattle.holdings.specs.Places.{Told}
use Rattle.holdings.specs.laws.Storing.{all_most}

-- no more records follow than there are, and a record for each line
pub holdings_most : (mode : ℕ) (who : List ℕ) (make : List ℕ → List ℕ) (R ls : List (List ℕ)) → length (holdings mode who make R ls) ≤ length R + length ls
unfolding holdings replaced_all others
holdings_most mode who make R ls = go (is_full mode)
  where
    xs : List (List ℕ)
    xs = map make ls

    go : (b : Bool) → length (cond b (others who R ++ xs) (stored_all R xs)) ≤ length R + length ls
    go true = omega (arith, length-append (others who R) xs, length-map ls make, sift_length (λ r. not (of_actor who r)) R)
    go false = omega (arith, all_most xs R, length-map ls make)

-- full: the sender's records go, and the lines come
pub used_full : (mode : ℕ) (who : List ℕ) (R ls : List (List ℕ)) → mode ≡ full → used_after mode who R ls + count_of who R ≡ length R + length ls
unfolding used_after is_full others count_of
used_full mode who R ls m = rw (eq-eqb mode full m) (omega (arith, sift_counts (of_actor who) R))

-- ---- by the places told

module _ (R : List (List ℕ)) (width : ℕ) where
  -- the first line, where it was taken
  told_first : (lines : List ℕ) (v f : ℕ) (vs found : List ℕ) → Told R width lines (v ∷ vs) (f ∷ found) → good v ≡ true → is_behind (length R) f ≡ is_new R (take width lines)
  unfolding part_at place_of
  told_first lines v f vs found t g =
      let e : 0 * width ≡ 0 = omega arith in
      let p : f ≡ place_of (pan_of (take width lines)) R = rw e at (t.told 0 (omega arith) g) in
      rw (place_some (holds_pan (pan_of (take width lines))) R, p)

  -- and those behind it
  told_behind : (lines : List ℕ) (v f : ℕ) (vs found : List ℕ) → Told R width lines (v ∷ vs) (f ∷ found) → Told R width (drop width lines) vs found
  unfolding part_at
  told_behind lines v f vs found t =
      record { told = λ i h g. let e : suc i * width ≡ width + i * width = omega arith in rw drop-drop (rw e at (t.told (suc i) (omega arith) g)) }

  -- the lines whose places are behind the records are new to them
  told_new : (lines vs found : List ℕ) → length found ≡ length vs → Told R width lines vs found
      → length (sift (is_behind (length R)) (pick good vs found)) ≡ length (sift (is_new R) (taken_in width vs lines))
  unfolding pick chop sift
  told_new lines [] [] l t = refl
  told_new lines [] (f ∷ found) l t = absurd (omega arith)
  told_new lines (v ∷ vs) [] l t = absurd (omega arith)
  told_new lines (v ∷ vs) (f ∷ found) l t =
      length_sift_onto (is_behind (length R)) (good v) f (pick good vs found)
      ∙ rw (told_new (drop width lines) vs found (omega arith) (told_behind lines v f vs found t), same (good v) refl)
      (sym (length_sift_onto (is_new R) (good v) (take width lines) (taken_in width vs (drop width lines))))
    where
      same : (b : Bool) → good v ≡ b → (b && is_behind (length R) f) ≡ (b && is_new R (take width lines))
      same true g = told_first lines v f vs found t g
      same false g = refl

-- it is the number that is reckoned of the lines
pub used_by_lem : (mode : ℕ) (who : List ℕ) (R : List (List ℕ)) (width : ℕ) (lines vs found : List ℕ) → length found ≡ length vs → (is_full mode ≡ false → Told R width lines vs found)
    → used_by mode who R vs found ≡ used_after mode who R (taken_in width vs lines)
unfolding used_by used_after
used_by_lem mode who R width lines vs found l t = go (is_full mode) refl
  where
    go : (b : Bool) → is_full mode ≡ b
        → cond b (length (others who R) + tally good vs) (length R + length (sift (is_behind (length R)) (pick good vs found)))
        ≡ cond b (length (others who R) + length (taken_in width vs lines)) (length R + length (sift (is_new R) (taken_in width vs lines)))
    go true m = rw (tally_pick good vs (chop width (length vs) lines) (sym (length_chop width (length vs) lines)))
    go false m = rw (told_new R width lines vs found l (t m))
