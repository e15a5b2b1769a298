-- The register as its records: what "in order" says of them, and that any such records make a register in order.
-- Assumes nothing.
use Rattle.std.specs.Prelude.{◌≡◌, refl, false, ◌&&◌}
use Rattle.std.proofs.Math.Path.{sym, ap}
use Rattle.std.proofs.Common.{◌∙◌, arith, div-add-mod', mul-div_cancel, length-drop, drop_at}
use Rattle.std.proofs.Math.Bool.{Bool, true}
use mathlib.Core.List.{List, [], ◌∷◌, map}
use Prim.Native.Nat.{ℕ, ◌-◌, ◌*◌, ◌%◌, ◌≤◌}
use Rattle.std.proofs.Math.Nat.{mul-mod_left}
use Rattle.std.proofs.Math.Dec.{eqb, leb}
use Rattle.std.proofs.Math.ListN.{length, drop, replicate}
use borrow.Author.Tests.{eqb-true, eq-eqb, leb-true, le-leb}
use Rattle.theory.specs.laws.Truth.{and_left, and_right, and_split}
use Rattle.theory.specs.Same.{eqs}
use Rattle.theory.specs.Every.{all, run}
use Rattle.theory.specs.laws.Every.{run_length, run_all}
use Rattle.theory.specs.Parts.{chop}
use Rattle.theory.specs.laws.Parts.{length_chop}
use Rattle.theory.specs.Walk.{each}
use Rattle.theory.specs.laws.Walk.{each_passes, passes_each}
use Rattle.theory.specs.Each.{Each, none, more}
use Rattle.theory.specs.laws.Each.{each_map, each_replicate}
use Rattle.theory.specs.Distinct.{distinct}
use Rattle.theory.specs.Join.{flat}
use Rattle.theory.specs.laws.Join.{flat_chop, each_chop, chop_split}
use Rattle.theory.specs.Pad.{free, pad}
use Rattle.theory.specs.laws.Pad.{chop_pad, front_pad, length_flat_pad}
use Rattle.theory.specs.laws.Place.{drop_chop}
use Rattle.sizes.specs.Sizes.{slot_length, slot_end, slots_most}
use Rattle.texts.specs.Field.{field, line_end}
use Rattle.fields.specs.Field.{zero_byte}
use Rattle.columns.specs.Columns.{actor, pan_of}
use Rattle.lines.specs.Rules.{record_holds}
use Rattle.stamps.specs.Stamp.{stamp_in, stamp_holds}
use Rattle.slots.specs.Slots.{slots_in, slots_of, marked, records, used_in}
use Rattle.slots.specs.laws.Slots.{used_most, records_chop, used_fits}
use Rattle.register.specs.Register.{used_form, free_form, in_order}

-- ---- free slots

zero_bytes : (s : List ℕ) → all zero_byte s ≡ true → s ≡ replicate (length s) 0
unfolding all
zero_bytes [] h = refl
zero_bytes (x ∷ s) h =
    let e : x ≡ 0 = omega (arith, leb-true x 0 (and_right (leb 0 x) (leb x 0) (and_left (zero_byte x) (all zero_byte s) h))) in
    rw (e, ← zero_bytes s (and_right (zero_byte x) (all zero_byte s) h))

free_is : (s : List ℕ) → free_form s ≡ true → s ≡ free slot_length
unfolding free_form free
free_is s h = zero_bytes s (run_all zero_byte slot_length s h) ∙ rw (run_length zero_byte slot_length s h)

free_form_lem : free_form (free slot_length) ≡ true
unfolding free_form run all free
free_form_lem = refl

free_unmarked : marked (free slot_length) ≡ false
unfolding marked free eqs field
free_unmarked = refl

all_free : {xs : List (List ℕ)} → Each (λ s. free_form s ≡ true) xs → xs ≡ replicate (length xs) (free slot_length)
all_free none = refl
all_free (more h hs) = rw (free_is _ h, ← all_free hs)

-- ---- a register in order

pub record Ordered (b : List ℕ) : Type 0 where
  pub whole : length b ≡ slots_in b * slot_length
  pub most : slots_in b ≤ slots_most
  pub sized : Each (λ r. length r ≡ slot_length) (records b)
  pub used : Each (λ r. used_form r ≡ true) (records b)
  pub apart : distinct (map pan_of (records b)) ≡ true
  -- the records say all
  pub padded : b ≡ flat (pad slot_length (slots_in b) (records b))

module _ (b : List ℕ) where
  whole_is : length b % slot_length ≡ 0 → length b ≡ slots_in b * slot_length
  whole_is h = omega (arith, div-add-mod' (length b) slot_length)

  padded_is : length b ≡ slots_in b * slot_length → each free_form (drop (used_in b) (slots_of b)) ≡ true → b ≡ flat (pad slot_length (slots_in b) (records b))
  unfolding pad slots_of
  padded_is w h =
      let n : ℕ = slots_in b in
      let e : drop (used_in b) (chop slot_length n b) ≡ replicate (n - used_in b) (free slot_length) =
      all_free (each_passes free_form (drop (used_in b) (chop slot_length n b)) h) ∙ rw (length-drop (used_in b) (chop slot_length n b), length_chop slot_length n b) in
      sym (flat_chop slot_length n b w)
      ∙ ap flat (chop_split slot_length n (used_in b) b (used_most b) ∙ rw (← records_chop b, ← drop_chop slot_length n (used_in b) b (used_most b), e))

  pub ordered : in_order b ≡ true → Ordered b
  unfolding in_order
  ordered h =
      let a : Bool = eqb (length b % slot_length) 0 in
      let l : Bool = leb (slots_in b) slots_most in
      let u : Bool = each used_form (records b) in
      let f : Bool = each free_form (drop (used_in b) (slots_of b)) in
      let s₄ = and_split (((a && l) && u) && f) (distinct (map pan_of (records b))) h in
      let s₃ = and_split ((a && l) && u) f s₄.0 in
      let s₂ = and_split (a && l) u s₃.0 in
      let s₁ = and_split a l s₂.0 in
      let w : length b ≡ slots_in b * slot_length = whole_is (eqb-true (length b % slot_length) 0 s₁.0) in
      record {
        whole = w;
        most = leb-true (slots_in b) slots_most s₁.1;
        sized = rw (records_chop b) (each_chop slot_length (used_in b) b (used_fits b));
        used = each_passes used_form (records b) s₂.1;
        apart = s₄.1;
        padded = padded_is w s₃.1;
      }

-- ---- and back

marked_used : (r : List ℕ) → used_form r ≡ true → marked r ≡ true
unfolding used_form
marked_used r h =
    and_left (marked r) (record_holds r)
    (and_left (marked r && record_holds r) (eqs (field slot_end slot_end r) line_end)
    (and_left ((marked r && record_holds r) && eqs (field slot_end slot_end r) line_end) (stamp_holds (actor r) (stamp_in r)) h))

-- a used slot has a stamp of its actor's
pub used_stamped : (r : List ℕ) → used_form r ≡ true → stamp_holds (actor r) (stamp_in r) ≡ true
unfolding used_form
used_stamped r h = and_right ((marked r && record_holds r) && eqs (field slot_end slot_end r) line_end) (stamp_holds (actor r) (stamp_in r)) h

module _ (n : ℕ) {R : List (List ℕ)} (z : Each (λ r. length r ≡ slot_length) R) (l : length R ≤ n) where
  abbrev block : List ℕ
  block = flat (pad slot_length n R)

  pub slots_pad : slots_in block ≡ n
  slots_pad = rw (length_flat_pad slot_length n z l) (mul-div_cancel n (omega arith))

  slots_are : slots_of block ≡ pad slot_length n R
  unfolding slots_of
  slots_are = rw slots_pad (chop_pad slot_length n z l)

  module _ (u : Each (λ r. used_form r ≡ true) R) where
    pub records_pad : records block ≡ R
    unfolding records
    records_pad = rw slots_are (front_pad slot_length n marked free_unmarked (each_map marked_used u))

    pub order_pad : distinct (map pan_of R) ≡ true → n ≤ slots_most → in_order block ≡ true
    unfolding in_order pad
    order_pad d m =
        let k : ℕ = n - length R in
        let f : List ℕ = free slot_length in
        let w : eqb (length block % slot_length) 0 ≡ true = eq-eqb (length block % slot_length) 0 (rw (length_flat_pad slot_length n z l) (mul-mod_left n slot_length)) in
        let s : leb (slots_in block) slots_most ≡ true = le-leb (slots_in block) slots_most (rw slots_pad m) in
        let e : drop (length R) (slots_of block) ≡ replicate k f = rw slots_are (drop_at R (replicate k f) (length R) refl) in
        let g : each free_form (replicate k f) ≡ true = passes_each free_form (each_replicate {q = λ r. free_form r ≡ true} k f free_form_lem) in
        rw (w, s, records_pad, passes_each used_form u, e, g, d)
