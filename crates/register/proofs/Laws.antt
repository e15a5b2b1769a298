-- What is asked of a register, as the code asks it. Assumes nothing.
use mathlib.Core.Path.{◌≡◌, refl, ◌∙◌}
use mathlib.Core.Bool.{Bool, true, false, ◌&&◌}
use mathlib.Core.List.{List, map}
use Prim.Native.Nat.{ℕ, ◌%◌, ◌≤◌}
use Rattle.std.specs.List.{list_all}
use native.Mathlib.Omega.{arith}
use borrow.Author.Tests.{leb-true}
use lib.Dec.{eqb, leb}
use lib.ListN.{length, drop}
use Rattle.theory.specs.laws.Truth.{and_right}
use Rattle.theory.specs.laws.Words.{each_is}
use Rattle.theory.specs.Distinct.{distinct}
use Rattle.sizes.specs.Sizes.{slot_length, slots_most}
use Rattle.columns.specs.Columns.{pan_of}
use Rattle.keys.specs.declared.keyed.KeyedParts.{KeyedParts}
use Rattle.apart.specs.Promises.{AllApart}
use Rattle.slots.specs.Slots.{slots_in, slots_of, records, used_in, used_part}
use Rattle.slots.specs.Promises.{ByPan}
use Rattle.slots.specs.laws.Slots.{used_most, used_slots, slots_used}
use Rattle.register.specs.Register.{whole, used_form, free_form, in_order}

module _ (b : List ℕ) where
  pub not_whole : whole b ≡ false → in_order b ≡ false
  unfolding in_order
  not_whole h = rw h

  few : whole b ≡ true → used_in b ≤ slots_most
  few h = omega (arith, used_most b, leb-true (slots_in b) slots_most (and_right (eqb (length b % slot_length) 0) (leb (slots_in b) slots_most) h))

  pub asked : whole b ≡ true
      → in_order b ≡ list_all used_form (records b) && list_all free_form (drop (used_in b) (slots_of b)) && distinct (map pan_of (records b))
  unfolding in_order
  asked h = rw (h, each_is used_form (records b), each_is free_form (drop (used_in b) (slots_of b))) refl

  -- u is the used part
  module _ (u : List ℕ) (e : u ≡ used_part b) (parts : KeyedParts) (p : ByPan u parts) where
    -- it has no more slots than there may be
    pub used_few : whole b ≡ true → parts.count ≤ slots_most
    used_few h = rw (p.2, e, used_slots b) (few h)

    -- and they are the records
    pub apart_asked : (r : Bool) → AllApart parts.block.now parts.keys parts.count r → r ≡ distinct (map pan_of (records b))
    unfolding slots_of
    apart_asked r a = a ∙ rw (p.0, p.1, p.2, e, slots_used b)
