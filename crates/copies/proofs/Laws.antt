-- What the functions of this crate cite. Assumes nothing.
use mathlib.Core.Path.{◌≡◌, refl, ap}
use mathlib.Core.Bool.{Bool, true, false, ◌&&◌}
use mathlib.Core.List.{List, [], ◌∷◌}
use Prim.Native.Nat.{ℕ, suc}
use native.Mathlib.Omega.{arith}
use lib.Dec.{eqb}
use lib.ListN.{length}
use borrow.Author.Tests.{eqb-true, eq-eqb}
use Rattle.theory.specs.laws.Truth.{same_truth}
use Rattle.theory.specs.Keep.{onto, sift}
use Rattle.theory.specs.laws.Keep.{sift_all, sift_length}
use Rattle.theory.specs.Walk.{each}
use Rattle.theory.specs.laws.Walk.{each_passes}
use Rattle.header.specs.Header.{sender}
use Rattle.slots.specs.Slots.{slots_in, slots_of, records, used_part}
use Rattle.slots.specs.Search.{of_actor, count_of}
use Rattle.slots.specs.laws.Slots.{slots_used, used_slots}
use Rattle.copies.specs.Copy.{own_holds}

all_kept : (q : List ℕ → Bool) (xs : List (List ℕ)) → length (sift q xs) ≡ length xs → each q xs ≡ true
unfolding each sift onto
all_kept q [] h = refl
all_kept q (x ∷ xs) h = go (q x) h (λ e. all_kept q xs e)
  where
    go : (b : Bool) → length (onto b x (sift q xs)) ≡ suc (length xs) → (length (sift q xs) ≡ length xs → each q xs ≡ true) → b && each q xs ≡ true
    go true k ih = ih (omega arith)
    go false k ih = absurd (omega (arith, sift_length q xs))

kept_each : (q : List ℕ → Bool) (xs : List (List ℕ)) → eqb (length (sift q xs)) (length xs) ≡ each q xs
kept_each q xs =
    same_truth _ _ (λ e. all_kept q xs (eqb-true (length (sift q xs)) (length xs) e))
    (λ e. eq-eqb (length (sift q xs)) (length xs) (ap length (sift_all q (each_passes q xs e))))

-- held are the used slots, who is the sender, and n of them are his
pub own_is : (copy h held who : List ℕ) → held ≡ used_part copy → who ≡ sender h → (n : ℕ) → n ≡ count_of who (slots_of held) → eqb n (slots_in held) ≡ own_holds copy h
unfolding own_holds count_of
own_is copy h held who eh ew n en =
    rw (en, eh, ew, slots_used copy, used_slots copy) (kept_each (of_actor (sender h)) (records copy))
