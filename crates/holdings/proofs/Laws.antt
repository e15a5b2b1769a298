-- What the functions of this crate cite. Assumes nothing.
use mathlib.Core.Path.{◌≡◌, refl, sym, ◌∙◌}
use mathlib.Core.Bool.{Bool, true, false, ◌&&◌}
use mathlib.Core.List.{List}
use Prim.Native.Nat.{ℕ, zero, suc, ◌+◌, ◌-◌, ◌≤◌, ◌<◌}
use native.Mathlib.Omega.{arith}
use lib.Dec.{eqb, leb}
use Rattle.std.proofs.lemmas.Bool.Decides.{nat_tests}
use lib.ListN.{length, get_or}
use Rattle.theory.specs.laws.Among.{CountAmong, count_among_turn}
use borrow.Author.Tests.{eq-eqb, ne_eqb}
use Rattle.theory.specs.Count.{bump}
use Rattle.theory.specs.Keep.{sift}
use Rattle.theory.specs.laws.Keep.{sift_counts}
use Rattle.theory.specs.laws.Parts.{length_chop}
use Rattle.theory.specs.Pick.{good, pick}
use Rattle.theory.specs.Tally.{tally}
use Rattle.theory.specs.laws.Tally.{tallies}
use Rattle.sizes.specs.Sizes.{full, slot_length, slots_most}
use Rattle.sizes.specs.Modes.{is_full}
use Rattle.texts.specs.declared.parts.Parts.{Parts}
use Rattle.keys.specs.declared.keyed.KeyedParts.{KeyedParts}
use Rattle.keys.specs.Promises.{KeyedPartsBy}
use Rattle.finding.specs.Promises.{Places}
use Rattle.slots.specs.Slots.{slots_in, slots_of, records, used_in, used_part}
use Rattle.slots.specs.Promises.{ByPan}
use Rattle.slots.specs.laws.Slots.{used_slots, slots_used}
use Rattle.slots.specs.Search.{of_actor, count_of}
use Rattle.holdings.specs.Holdings.{others}
use Rattle.holdings.specs.Room.{is_behind, used_by}
use Rattle.holdings.specs.Places.{places_in, places_after}
use Rattle.holdings.specs.Promises.{FindPlaces}

-- ---- one line

pub good_is : (v : ℕ) → eqb v 0 ≡ good v
unfolding good
good_is zero = refl
good_is (suc v) = ne_eqb (suc v) 0 (λ e. absurd (omega arith))

pub new_is : (v slots place : ℕ) → v ≡ 0 → leb slots place ≡ good v && is_behind slots place
unfolding good
new_is v slots place e = rw e (behind_is slots place)
  where
    behind_is : (slots place : ℕ) → leb slots place ≡ is_behind slots place
    behind_is slots place = grind (arith, nat_tests)

-- what one line adds to those that count
pub counted : (q : ℕ → Bool) (vs xs : List ℕ) (i k : ℕ) → CountAmong q vs xs i k → i < length vs → i < length xs
    → (x : ℕ) → x ≡ get_or xs i 0 → (t : Bool) → t ≡ good (get_or vs i 0) && q x → (m : ℕ) → m ≡ bump t k → CountAmong q vs xs (i + 1) m
unfolding bump
counted q vs xs i k c h l x e t f m g =
    rw (g, sym (bump_zero t k)) (count_among_turn q vs xs i k c h l 0 (bump t 0) (rw f (rw e refl)))
  where
    bump_zero : (t : Bool) (k : ℕ) → k + bump t 0 ≡ bump t k
    bump_zero true k = omega arith
    bump_zero false k = omega arith

-- ---- all of them

length_slots : (b : List ℕ) → length (slots_of b) ≡ slots_in b
unfolding slots_of
length_slots b = length_chop slot_length (slots_in b) b

count_most : (who : List ℕ) (R : List (List ℕ)) → count_of who R ≤ length R
unfolding count_of
count_most who R = omega (arith, sift_counts (of_actor who) R)

pub taken_most : (vs : List ℕ) (t : ℕ) → t ≡ tally good vs → t ≤ length vs
taken_most vs t e = omega (arith, tallies vs)

-- held is the used part of the register b
module _ (b held : List ℕ) (e : held ≡ used_part b) where
  pub held_used : slots_in held ≡ used_in b
  held_used = rw e (used_slots b)

  held_slots : slots_of held ≡ records b
  held_slots = rw e (slots_used b)

  module _ (who : List ℕ) (k : ℕ) (f : k ≡ count_of who (slots_of held)) where
    pub his_most : k ≤ slots_in held
    his_most = omega (arith, f, count_most who (slots_of held), length_slots held)

    -- t lines were taken
    pub full_used : (mode : ℕ) → mode ≡ full → (vs found : List ℕ) (t : ℕ) → t ≡ tally good vs → slots_in held - k + t ≡ used_by mode who (records b) vs found
    unfolding used_by is_full others count_of
    full_used mode m vs found t g =
        let his : k ≡ count_of who (records b) = rw (← held_slots) f in
        rw (eq-eqb mode full m) (omega (arith, his, held_used, g, sift_counts (of_actor who) (records b)))

  -- k lines are new
  pub incremental_used : (mode : ℕ) → (mode ≡ full → ⊥) → (who vs found : List ℕ) (k : ℕ) → k ≡ length (sift (is_behind (slots_in held)) (pick good vs found))
      → slots_in held + k ≡ used_by mode who (records b) vs found
  unfolding used_by is_full
  incremental_used mode n who vs found k g = rw (g, held_used, ne_eqb mode full n)

  -- parts are the slots by their PANs, and sought the lines of this width by theirs
  module _ (parts : KeyedParts) (p : ByPan held parts) where
    pub held_few : used_in b ≤ slots_most → parts.count ≤ slots_most
    held_few h = rw (p.2, held_used) h

    pub incremental_places : (mode : ℕ) → (mode ≡ full → ⊥) → (lines : Parts) (sought : KeyedParts) → KeyedPartsBy lines (record { from = 14; to = 32; forward = (omega arith, omega arith) }) sought
        → (vs before found : List ℕ) → length before ≡ length vs → Places parts.block.now parts.keys parts.count sought.block.now sought.keys vs before found
        → FindPlaces mode b lines.block.now lines.width vs before found
    unfolding places_after places_in is_full slots_of
    incremental_places mode n lines sought q vs before found l g =
        g ∙ rw (p.0, p.1, p.2, q.0, q.1, l, ne_eqb mode full n, ← held_slots) refl

pub full_places : (mode : ℕ) → mode ≡ full → (R : List (List ℕ)) (width : ℕ) (lines vs found : List ℕ) → found ≡ places_after mode R width lines vs found
unfolding places_after is_full
full_places mode m R width lines vs found = rw (eq-eqb mode full m)
